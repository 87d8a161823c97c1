use Rattle.std.proofs.Common.{sym}
use Rattle.denova_calls.proofs.Looks.{not_found}
use Rattle.denova_calls.proofs.look.found.Goals as goal

pub returns-in-Ok-None : goal.returns-in-Ok-None
returns-in-Ok-None g c =
    let told = rw c.in-Ok-None.field-0-is at c.in-Ok-None.ensures in
    not_found g.D.Pm.state c.args.v.now c.args.name.now (λ d volume. sym (told d volume)) c.refused.result c.refused.ensures

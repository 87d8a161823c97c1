use Rattle.std.proofs.Common.{◌∙◌}
use Rattle.dn_shared.proofs.Opened.{opens}
use Rattle.dn_shared.proofs.shared.Shared.open.Goals as goal

pub new-requires-clause-words : goal.new-requires-clause-words
new-requires-clause-words g c = c.as_slice.ensures.value ∙ c.in-Ok.ensures.words

pub new-requires-clause-opens : goal.new-requires-clause-opens
new-requires-clause-opens g c = opens g.D.Pm.state g.F.Fingerprint.print _ c.args.clients c.requires.few c.in-Ok.ensures.gone c.requires.agrees
    c.requires.running c.requires.history c.requires.trace c.requires.landed c.in-Ok.ensures.opening

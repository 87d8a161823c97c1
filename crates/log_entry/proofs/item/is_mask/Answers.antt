use Rattle.std.proofs.Common.{◌≡◌, ◌*◌, ◌^◌, ◌%◌, arith}
use Rattle.std.proofs.lemmas.Nat.{one_shl}
use Rattle.std.proofs.lemmas.Bool.Decides.{nat_tests}
use Rattle.log_entry.proofs.item.is_mask.Goals as goal

pub returns : goal.returns
returns c =
    let whole : (1 * 2 ^ c.args.count) % 2 ^ 64 ≡ 2 ^ c.args.count = one_shl c.args.count 64 (omega arith) in
    rw whole (grind (arith, nat_tests))

use Rattle.std.proofs.Common.{◌≡◌, ◌<◌, length, sym, arith, rules}
use Rattle.std.proofs.lemmas.Bool.Decides.{nat_tests}
use Rattle.std.proofs.lemmas.List.{append-nil}
use Rattle.dn_report.proofs.Texts.{digits_of_none, digits_of_some}
use Rattle.dn_report.proofs.report.write_digits.Goals as goal

pub returns-then-is_empty : goal.returns-then-is_empty
returns-then-is_empty c =
    let none : length c.args.bytes.now ≡ 0 = grind (arith, nat_tests) in
    rw (digits_of_none c.args.bytes.now none) (sym (append-nil c.args.text.now.items))

pub returns : goal.returns
returns c =
    let some : 0 < length c.args.bytes.now = grind (arith, nat_tests) in
    rw (digits_of_some c.args.bytes.now some) (search rules)

use Rattle.std.proofs.Common.{◌≡◌, ◌<◌, drop}
use Rattle.dn_script.specs.Text.{digits_after}
use Rattle.dn_script.proofs.spelling.digits_value.Given as goal

abbrev pub invariant-loop-digit : goal.invariant-loop-digit
invariant-loop-digit l = record {
  same : digits_after l.value (drop l.digit-index l.digits) ≡ digits_after 0 l.digits;
  fits : l.value < 18446744073709551616;
}

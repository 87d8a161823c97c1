use Rattle.std.proofs.Common.{◌≡◌, ◌∙◌, refl, arith}
use Rattle.fingerprint.specs.Print.{print_word}
use Rattle.fingerprint.proofs.SlotLaws.{be_number-cut}
use Rattle.fingerprint.proofs.slot.FactSlot.words.Goals as goal

pub returns : goal.returns
returns c =
    let first : c.read_u64.result ≡ print_word c.args.self.now.print 0 = c.read_u64.ensures ∙ be_number-cut c.args.self.now.print 0 8 8 (omega arith)
    in
    let second : c.read_u64-2.result ≡ print_word c.args.self.now.print 1 = c.read_u64-2.ensures ∙ be_number-cut c.args.self.now.print 8 8 8
    (omega arith) in
    let third : c.from.result ≡ print_word c.args.self.now.print 2 = c.from.ensures ∙ c.read_u32.ensures ∙ be_number-cut c.args.self.now.print 16 4 4
    (omega arith) in
    rw (first, second, third, c.word.ensures) refl

use Rattle.std.proofs.Common.{◌≡◌, ◌+◌, ◌-◌, List, [], ◌∷◌, ◌++◌, length, map, sym, ◌∙◌, ap, ℕ, arith}
use Rattle.std.specs.Prelude.{slice_index, nat_le, nat_lt, ◌&&◌, if◌then◌else◌, max}
use Rattle.std.specs.List.{range_with_len}
use Rattle.std.proofs.lemmas.List.FromFn.{map-range_with_len_more}
use Rattle.dn_model.specs.Apply.{written}
use Rattle.dn_files.proofs.applying.written.Goals as goal

abbrev byte_of : List ℕ → ℕ → List ℕ → ℕ → ℕ
byte_of old at new j = if nat_le at j && nat_lt j (at + length new) then slice_index new (j - at) else slice_index old j

pub loop-j-preserved : goal.loop-j-preserved
loop-j-preserved c =
    let byte = c.written_byte.ensures in
    let z : 0 + c.loop-j.j ≡ c.loop-j.j = omega arith in
    c.in_ok-push.ensures.items ∙ (λ i. c.loop-j.invariant i ++ byte i ∷ []) ∙ sym
    (map-range_with_len_more (byte_of c.args.old.now c.args.at c.args.new.now) 0 c.loop-j.j c.loop-j.j z)

pub returns : goal.returns
unfolding written
returns c =
    let end : c.loop-j.j ≡ max (length c.args.old.now) (c.args.at + length c.args.new.now) = omega (
      arith,
      c.loop-j-test.false,
      c.loop-j.auto.j-end,
      c.max-size.ensures,
    ) in
    c.loop-j.invariant ∙ ap (λ (n : ℕ). map (byte_of c.args.old.now c.args.at c.args.new.now) (range_with_len 0 n)) end

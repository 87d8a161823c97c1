use Rattle.std.proofs.Common.{◌≡◌, ◌+◌, [], ◌∷◌, ◌++◌, map, sym, ◌∙◌, ap, ℕ, arith}
use Rattle.std.specs.Prelude.{slice_index}
use Rattle.std.specs.List.{range_with_len}
use Rattle.std.proofs.lemmas.List.FromFn.{map-range_with_len_more}
use Rattle.dn_model.specs.Apply.{resized}
use Rattle.dn_files.proofs.applying.resized.Goals as goal

pub loop-j-preserved : goal.loop-j-preserved
loop-j-preserved c =
    let byte = c.byte_at.ensures in
    let z : 0 + c.loop-j.j ≡ c.loop-j.j = omega arith in
    c.in_ok-push.ensures.items ∙ (λ i. c.loop-j.invariant i ++ byte i ∷ []) ∙ sym (map-range_with_len_more (slice_index c.args.old.now) 0 c.loop-j.j
    c.loop-j.j z)

pub returns : goal.returns
unfolding resized
returns c =
    let end : c.loop-j.j ≡ c.args.size = omega (arith, c.loop-j-test.false, c.loop-j.auto.j-end) in
    c.loop-j.invariant ∙ ap (λ (n : ℕ). map (slice_index c.args.old.now) (range_with_len 0 n)) end

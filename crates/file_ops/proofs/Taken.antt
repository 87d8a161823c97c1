-- The pages that a flight has taken: for its log, spare, and for its data.
use Rattle.std.proofs.Common.{◌≡◌, ◌⊎◌, inl, inr, ⊎_elim, ℕ, ◌+◌, List, ◌++◌, length, sym, ◌∙◌, ap, subst, arith}
use Rattle.std.specs.Prelude.{slice_index, Contains}
use Rattle.std.proofs.Common.{length-append}
use Rattle.std.proofs.lemmas.List.{get_or_append_left, get_or-append-add, get_or_default}
use Rattle.std.proofs.lemmas.List.Elements.{Contains-append_left, Contains-append_right, Contains-append_cases}
use Rattle.file_content.specs.Pages.{AreApart}
use Rattle.dn_volume.specs.declared.flight.Flight.{Flight}
use Rattle.dn_volume.specs.declared.flight.Change.{Change}
use Rattle.dn_volume.specs.declared.flight.Change.TheVariants.{Data}
use Rattle.dn_volume.specs.declared.flight.DataChange.{DataChange}
use Rattle.dn_volume.specs.Parties.{taken_by, blocks_of}

at_place : (xs : List ℕ) (x : ℕ) (has : Contains xs x) → slice_index xs has.0 ≡ x
at_place xs x has = get_or_default xs has.0 0 x has.1 ∙ has.2

pub left_apart : (xs ys : List ℕ) → AreApart (xs ++ ys) → AreApart xs
left_apart xs ys apart i j il jl e =
    apart i j (omega (arith, il, length-append xs ys)) (omega (arith, jl, length-append xs ys))
    (get_or_append_left xs ys 0 i il ∙ e ∙ sym (get_or_append_left xs ys 0 j jl))

pub right_apart : (xs ys : List ℕ) → AreApart (xs ++ ys) → AreApart ys
right_apart xs ys apart i j il jl e =
    let same = apart (length xs + i) (length xs + j) (omega (arith, il, length-append xs ys)) (omega (arith, jl, length-append xs ys))
    (get_or-append-add xs ys i 0 ∙ e ∙ sym (get_or-append-add xs ys j 0)) in
    omega (arith, same)

pub between : (xs ys : List ℕ) → AreApart (xs ++ ys) → (x : ℕ) → Contains xs x → Contains ys x → ⊥
between xs ys apart x left right =
    let same = apart left.0 (length xs + right.0) (omega (arith, left.1, length-append xs ys)) (omega (arith, right.1, length-append xs ys))
    (get_or_append_left xs ys 0 left.0 left.1 ∙ at_place xs x left ∙ sym (at_place ys x right) ∙ sym (get_or-append-add xs ys right.0 0)) in
    omega (arith, same, left.1)

module _ (f : Flight) (c : DataChange) (kind : f.change ≡ Data c) where
  taken_is : taken_by f ≡ f.fresh.items ++ f.spare.items ++ c.blocks.items
  taken_is = ap (λ (x : Change). f.fresh.items ++ f.spare.items ++ blocks_of x) kind

  pub fresh_taken : (page : ℕ) → Contains f.fresh.items page → Contains (taken_by f) page
  fresh_taken page has = Contains-append_left (f.fresh.items ++ f.spare.items) (blocks_of f.change) page
      (Contains-append_left f.fresh.items f.spare.items page has)

  pub spare_taken : (page : ℕ) → Contains f.spare.items page → Contains (taken_by f) page
  spare_taken page has = Contains-append_left (f.fresh.items ++ f.spare.items) (blocks_of f.change) page
      (Contains-append_right f.fresh.items f.spare.items page has)

  pub block_taken : (page : ℕ) → Contains c.blocks.items page → Contains (taken_by f) page
  block_taken page has = subst (λ (ps : List ℕ). Contains ps page) (sym taken_is) (Contains-append_right (f.fresh.items ++ f.spare.items)
      c.blocks.items page has)

  pub taken_cases : (page : ℕ) → Contains (taken_by f) page → Contains f.fresh.items page ⊎ Contains f.spare.items page ⊎ Contains c.blocks.items page
  taken_cases page has = ⊎_elim
      (λ log. ⊎_elim (λ fresh. inl fresh) (λ spare. inr (inl spare)) (Contains-append_cases f.fresh.items f.spare.items page log))
      (λ block. inr (inr block)) (Contains-append_cases (f.fresh.items ++ f.spare.items) c.blocks.items page
      (subst (λ (ps : List ℕ). Contains ps page) taken_is has))

  module _ (apart : AreApart (taken_by f)) where
    whole : AreApart (f.fresh.items ++ f.spare.items ++ c.blocks.items)
    whole = subst AreApart taken_is apart

    pub fresh_apart : AreApart f.fresh.items
    fresh_apart = left_apart f.fresh.items f.spare.items (left_apart (f.fresh.items ++ f.spare.items) c.blocks.items whole)

    pub blocks_apart : AreApart c.blocks.items
    blocks_apart = right_apart (f.fresh.items ++ f.spare.items) c.blocks.items whole

    pub fresh_not_spare : (page : ℕ) → Contains f.fresh.items page → Contains f.spare.items page → ⊥
    fresh_not_spare page fresh spare = between f.fresh.items f.spare.items (left_apart (f.fresh.items ++ f.spare.items) c.blocks.items whole) page
        fresh spare

    pub fresh_no_block : (page : ℕ) → Contains f.fresh.items page → Contains c.blocks.items page → ⊥
    fresh_no_block page fresh block = between (f.fresh.items ++ f.spare.items) c.blocks.items whole page
        (Contains-append_left f.fresh.items f.spare.items page fresh) block

    pub spare_no_block : (page : ℕ) → Contains f.spare.items page → Contains c.blocks.items page → ⊥
    spare_no_block page spare block = between (f.fresh.items ++ f.spare.items) c.blocks.items whole page
        (Contains-append_right f.fresh.items f.spare.items page spare) block

-- A file that gets another name: its bytes are put under the new name, and then the old name is dropped.
use Rattle.std.proofs.Common.{◌≡◌, ◌≢◌, ℕ, Bool, true, false, List, Option, Some, None, IsSome, refl, sym, ap, subst, ◌∙◌}
use Rattle.std.specs.Prelude.{if◌then◌else◌}
use Rattle.log_entry.specs.Name.{same_name}
use Rattle.log_entry.proofs.SameName.{same_name-true}
use Rattle.dn_model.specs.Files.{Files, IsSameFiles}
use Rattle.dn_model.specs.Apply.{with_file, bytes_or_none}

pub some_bytes : (r : Option (List ℕ)) → IsSome r → r ≡ Some (bytes_or_none r)
some_bytes None some = cc
some_bytes (Some bytes) some = refl

module _ (f : Files) (from to : List ℕ) where
  abbrev renamed : Files
  renamed = with_file (with_file f from None) to (f from)

  -- at a name other than the new one
  past_to : (q : List ℕ) → same_name to q ≡ false → renamed q ≡ with_file f from None q
  past_to q other = ap (λ (b : Bool). if b then f from else with_file f from None q) other

  pub renamed_self : from ≡ to → IsSameFiles f renamed
  renamed_self same q = by_test (same_name to q) refl
    where
      by_test : (t : Bool) → same_name to q ≡ t → f q ≡ renamed q
      by_test true at_to =
          ap f (sym (same ∙ same_name-true to q at_to)) ∙ sym (ap (λ (b : Bool). if b then f from else with_file f from None q) at_to)
      by_test false other =
          sym (past_to q other ∙ ap (λ (b : Bool). if b then None else f q) (subst (λ (n : List ℕ). same_name n q ≡ false) (sym same) other))

  module _ (apart : from ≢ to) (found : IsSome (f from)) (g h : Files) (put : IsSameFiles g (with_file f to (Some (bytes_or_none (f from)))))
      (dropped : IsSameFiles h (with_file g from None)) where
    pub put_and_dropped : IsSameFiles h renamed
    put_and_dropped q = by_test (same_name to q) (same_name from q) refl refl
      where
        by_test : (t s : Bool) → same_name to q ≡ t → same_name from q ≡ s → h q ≡ renamed q
        by_test true true at_to at_from = absurd (apart (same_name-true from q at_from ∙ sym (same_name-true to q at_to)))
        by_test true false at_to other =
            dropped q ∙ ap (λ (b : Bool). if b then None else g q) other ∙ put q ∙ ap (λ (b : Bool). if b then Some (bytes_or_none (f from)) else f q)
            at_to
            ∙ sym (some_bytes (f from) found) ∙ sym (ap (λ (b : Bool). if b then f from else with_file f from None q) at_to)
        by_test false true other at_from =
            dropped q ∙ ap (λ (b : Bool). if b then None else g q) at_from
            ∙ sym (past_to q other ∙ ap (λ (b : Bool). if b then None else f q) at_from)
        by_test false false other other_from =
            dropped q ∙ ap (λ (b : Bool). if b then None else g q) other_from ∙ put q ∙ ap (λ (b : Bool). if b then Some (bytes_or_none (f from)) else
            f q) other
            ∙ sym (past_to q other ∙ ap (λ (b : Bool). if b then None else f q) other_from)

-- Which of a few inodes is the first that is held.
use Rattle.std.proofs.Common.{◌≡◌, ⊎_elim, ℕ, ◌+◌, ◌<◌, List, [], ◌∷◌, ◌++◌, length, take, drop, sym, ◌∙◌, ap, subst, arith, Option, Some, None}
use Rattle.std.proofs.lemmas.List.{take-append-drop, take_more, drop_more}
use Rattle.std.specs.Prelude.{Contains, All, get_or, slice_get}
use Rattle.std.proofs.lemmas.Option.{slice_get_cases}
use Rattle.std.proofs.lemmas.List.Elements.{Contains-append_cases}
use Rattle.law_unique.proofs.Listings.{none_listed, cons_cases}
use Rattle.pm_device.specs.State.{State}
use Rattle.dn_model.specs.Disk.{Disk}
use Rattle.dn_volume.specs.declared.volume.InodeState.{InodeState}
use Rattle.dn_volume.specs.declared.volume.Parts.{Parts}
use Rattle.dn_volume.specs.Agrees.{IsVolume}
use Rattle.dn_volume.specs.Begins.{IsHeldFirst, AreLoose}
use Rattle.begin_steps.specs.Held.{AreLooseAmong, IsHeldAmong}

pub loose_none : (ns : List InodeState) (wanted : List ℕ) → AreLooseAmong ns (take 0 wanted)
loose_none ns wanted ino n has at = absurd (none_listed ino has)

module _ (ns : List InodeState) (wanted : List ℕ) (i : ℕ) (lt : i < length wanted) (inside : All (λ ino. ino < length ns) wanted) where
  -- one more is loose
  pub loose_next : (w x : ℕ) → w ≡ get_or wanted i x → AreLooseAmong ns (take i wanted) → ((n : InodeState) → slice_get ns w ≡ Some n
      → None ≡ n.holder)
      → AreLooseAmong ns (take (i + 1) wanted)
  loose_next w x is loose here ino n has at = ⊎_elim (λ before. loose ino n before at)
      (λ last. ⊎_elim (λ same. sym (here n (subst (λ (j : ℕ). slice_get ns j ≡ Some n) (sym same ∙ sym is) at))) (λ none. absurd
      (none_listed ino none))
      (cons_cases (get_or wanted i x) ino [] last))
      (Contains-append_cases (take i wanted) (get_or wanted i x ∷ []) ino
      (subst (λ (xs : List ℕ). Contains xs ino) (take_more wanted i x lt) has))

  -- this one is held
  pub held_here : (w x who : ℕ) → w ≡ get_or wanted i x → AreLooseAmong ns (take i wanted) → ((n : InodeState) → slice_get ns w ≡ Some n
      → Some who ≡ n.holder)
      → IsHeldAmong ns wanted who
  held_here w x who is loose here = ⊎_elim
      (λ found. record {
        before = take i wanted;
        ino = w;
        after = drop (i + 1) wanted;
        split = sym (take-append-drop i wanted) ∙ ap (λ (xs : List ℕ). take i wanted ++ xs) (drop_more wanted i x lt ∙ ap (λ (y : ℕ). y ∷ drop
            (i + 1) wanted) (sym is));
        held = record { node = found.0; at = found.2; holder = sym (here found.0 found.2) };
        loose = loose;
      })
      (λ past. absurd (let small : w < length ns = subst (λ (y : ℕ). y < length ns) (sym is) (inside i x lt) in omega (arith, small, past.0)))
      (slice_get_cases ns w).1

-- what the inodes' states tell is who holds them
module _ (d : Disk) (b : Parts) (s : State) (v : IsVolume d b s) (wanted : List ℕ) where
  pub loose_all : All (λ ino. ino < length b.inodes.items) wanted → AreLooseAmong b.inodes.items wanted → AreLoose b wanted
  loose_all inside loose i q has holds = ⊎_elim
      (λ found. clash found.0.holder (loose i found.0 has found.2) ((v.holders.told i q found.0 found.2).1 holds))
      (λ past. absurd (let small = v.holders.in_table i q holds in let all = v.inodes.all in omega (arith, small, all, past.0)))
      (slice_get_cases b.inodes.items i).1
    where
      clash : (o : Option ℕ) → o ≡ None → o ≡ Some q → ⊥
      clash o none some = cc

  pub held_first : (who : ℕ) → IsHeldAmong b.inodes.items wanted who → IsHeldFirst b wanted who
  held_first who is = record {
    before = is.before;
    ino = is.ino;
    after = is.after;
    split = is.split;
    holds = (v.holders.told is.ino who is.held.node is.held.at).0 is.held.holder;
    loose = λ i q has holds. ⊎_elim
        (λ found. clash found.0.holder q (is.loose i found.0 has found.2) ((v.holders.told i q found.0 found.2).1 holds))
        (λ past. absurd (let small = v.holders.in_table i q holds in let all = v.inodes.all in omega (arith, small, all, past.0)))
        (slice_get_cases b.inodes.items i).1;
  }
    where
      clash : (o : Option ℕ) (q : ℕ) → o ≡ None → o ≡ Some q → ⊥
      clash o q none some = cc

-- The image that is picked has the files after a front of the history.
use Rattle.std.proofs.Common.{◌≡◌, inl, inr, ℕ, zero, suc, ◌+◌, ◌<◌, ◌≤◌, List, [], ◌∷◌, length, refl, sym, ◌∙◌, ap, subst, arith, None}
use Rattle.std.specs.Prelude.{slice_index}
use Rattle.std.proofs.lemmas.List.{take_all}
use Rattle.std.proofs.lemmas.Bool.{cases_lt, cases_eq}
use Rattle.pm_device.specs.Past.{Left, moment}
use Rattle.pm_device.specs.State.{State, Agree}
use Rattle.pm_device.specs.Settled.{Still, Extends}
use Rattle.pm_device.specs.New.{IsNew}
use Rattle.pm_device.proofs.Only.{left-extends}
use Rattle.dn_model.specs.Disk.{Disk}
use Rattle.dn_model.specs.Files.{Files, files, IsSameFiles}
use Rattle.dn_model.specs.Image.{StandsFor}
use Rattle.dn_model.specs.Own.{Print, IsOwn}
use Rattle.dn_model.specs.History.{Legal}
use Rattle.dn_model.specs.Course.{Course, IsCountAt, IsFilesAt, after_k, one_more, in_flight}
use Rattle.dn_model.specs.declared.op.Entry.{Entry}
use Rattle.law_unique.proofs.OneImage.{map_one}
use Rattle.law_unique.proofs.Answered.{of_files}
use Rattle.dn_report.specs.Listing.{ListsFiles}
use Rattle.denova_runs.proofs.Mounts.{left_still}
use Rattle.denova_calls.specs.LookEnds.{ListsFront}
use Rattle.denova_calls.specs.LookSteps.{IsPickedAt}

abbrev Rising : List ℕ → Type 0
Rising moments = (i j : ℕ) → i ≤ j → j < length moments → slice_index moments i ≤ slice_index moments j

-- so many of rising moments are at most m
counted : (moments : List ℕ) (m : ℕ) → Rising moments → (k : ℕ) × IsCountAt moments m k
counted [] m rising = (0, record { few = omega arith; before = λ i lt. absurd (omega arith); after = λ i le lt. absurd (omega arith) })
counted (x ∷ xs) m rising = elim (cases_lt m x) [
  | inl early ↦ (
    0,
    record {
      few = omega arith;
      before = λ i lt. absurd (omega arith);
      after = λ i le lt. let up : x ≤ slice_index (x ∷ xs) i = rising 0 i le lt in omega arith;
    },
  )
  | inr here ↦
      let rest = counted xs m (λ i j le lt. rising (suc i) (suc j) (omega arith) (omega arith)) in
      (suc rest.0, record { few = omega (arith, rest.1.few); before = first rest.0 rest.1 here; after = later rest.0 rest.1 })
]
  where
    first : (k : ℕ) → IsCountAt xs m k → x ≤ m → (i : ℕ) → i < suc k → slice_index (x ∷ xs) i ≤ m
    first k count here zero lt = here
    first k count here (suc i) lt = count.before i (omega arith)

    later : (k : ℕ) → IsCountAt xs m k → (i : ℕ) → suc k ≤ i → i < length (x ∷ xs) → m < slice_index (x ∷ xs) i
    later k count zero le lt = absurd (omega arith)
    later k count (suc i) le lt = count.after i (omega arith) (omega arith)

-- images of the same words have the same files
one_map : (w : List ℕ) (d e : Disk) → StandsFor w d → StandsFor w e → IsSameFiles (files e) (files d)
one_map w d e first second = map_one w (files e) (files d) (record { disk = e; stands_for = second; same = λ name. refl })
    (record { disk = d; stands_for = first; same = λ name. refl })

module _ (print : Print) (calls : ℕ) (words : List ℕ) (s u : State) (new : IsNew words s) (still : Still s) (first_agrees : Agree s.now s.past)
    (agree : Agree u.now u.past) (on : Extends s.past u.past) (d : Disk) (stands : StandsFor s.now d) (history : List Entry)
    (course : Course print (files d) (moment s.past) history None u) (end_files : Files) (legal : Legal (files d) history end_files)
    (after : Disk) (rest : StandsFor u.now after) (quiet : Still u) (same : IsSameFiles (files after) end_files) (text : List ℕ) where
  at_first : moment s.past ≡ 0
  at_first = ap moment new.past

  module _ (c : List ℕ) (picked : IsPickedAt calls u c) (e : Disk) (image : StandsFor c e) (lists : ListsFiles (files e) text) where
    -- before all calls only the first words are left
    none_run : calls ≡ 0 → ListsFront calls (files d) history text
    none_run none = record {
      f = files e;
      k = 0;
      some = omega arith;
      none_run = λ h. refl;
      all_run = λ all. absurd (omega (arith, none, all));
      legal = one_map s.now d e stands (subst (λ (w : List ℕ). StandsFor w e) here image);
      lists = lists;
    }
      where
        left : Left s.past (moment s.past) c
        left = left-extends s.past u.past (moment s.past) c on (omega arith)
            (subst (λ (n : ℕ). Left u.past n c) (picked.none none ∙ sym at_first) picked.left)

        here : c ≡ s.now
        here = left_still s first_agrees still c left

    -- and after all of them the last ones
    all_run : calls ≡ 18446744073709551615 → ListsFront calls (files d) history text
    all_run all = record {
      f = files e;
      k = length history;
      some = omega arith;
      none_run = λ none. absurd (omega (arith, none, all));
      all_run = λ h. refl;
      legal = subst (λ (h : List Entry). Legal (files d) h (files e)) (sym (take_all (length history) history (omega arith)))
          ((of_files end_files (files e) ends).legal_to (files d) history legal);
      lists = lists;
    }
      where
        here : c ≡ u.now
        here = left_still u agree quiet c (subst (λ (n : ℕ). Left u.past n c) (picked.all all) picked.left)

        ends : IsSameFiles end_files (files e)
        ends name = sym (same name) ∙ one_map u.now e after (subst (λ (w : List ℕ). StandsFor w e) here image) rest name

    between : (calls ≡ 0 → ⊥) → (calls ≡ 18446744073709551615 → ⊥) → (k : ℕ) → IsFilesAt (files d) history None k (files e)
        → ListsFront calls (files d) history text
    between some less k (after_k is) = record {
      f = files e;
      k = k;
      some = is.some;
      none_run = λ h. absurd (some h);
      all_run = λ h. absurd (less h);
      legal = is.legal;
      lists = lists;
    }
    between some less k (one_more is) = record {
      f = files e;
      k = k + 1;
      some = is.some;
      none_run = λ h. absurd (some h);
      all_run = λ h. absurd (less h);
      legal = is.legal;
      lists = lists;
    }
    between some less k (in_flight g op last is so granted then_same) = absurd (cc is)

    by_calls : (k : ℕ) → IsFilesAt (files d) history None k (files e) → ListsFront calls (files d) history text
    by_calls k at = elim (cases_eq calls 0) [
      | inl none ↦ none_run none
      | inr some ↦ elim (cases_eq calls 18446744073709551615) [ inl all ↦ all_run all | inr less ↦ between some less k at ]
    ]

  pub front_listed : (c : List ℕ) → IsPickedAt calls u c → ((e : Disk) → StandsFor c e → IsOwn print e → ListsFiles (files e) text)
      → ListsFront calls (files d) history text
  front_listed c picked lists =
      let count = counted course.moments picked.m course.rising in
      let image = course.images picked.m count.0 c (omega (arith, at_first)) picked.left count.1 in
      by_calls c picked image.0 image.1 (lists image.0 image.1 image.2) count.0 image.3

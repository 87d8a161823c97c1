-- The names of files that rise are their listing.
use Rattle.std.proofs.Common.{◌≡◌, ℕ, zero, suc, ◌<◌, Bool, true, false, List, [], ◌∷◌, length, get_or, map, Some, IsSome, refl, sym, subst, arith}
use Rattle.std.specs.Prelude.{Contains, if◌then◌else◌}
use Rattle.std.specs.Ordering.{nat_cmp}
use Rattle.std.specs.Cmp.Lexicographic.{slice_cmp}
use Rattle.std.specs.declared.cmp.Ordering.TheVariants.{Less}
use Rattle.std.proofs.lemmas.List.{length-map}
use Rattle.log_entry.specs.Name.{same_name}
use Rattle.log_entry.proofs.SameName.{same_name-true, same_name-same}
use Rattle.dn_model.specs.Apply.{IsListing}
use Rattle.dn_files.specs.FileLists.{files_of, AreRising}
use Rattle.dn_files.specs.declared.files.FileText.{FileText}

name_at : (list : List FileText) (k : ℕ) (d : List ℕ) (file : FileText) → k < length list → get_or (map (λ (f : FileText). f.name) list) k
    d ≡ (get_or list k file).name
name_at [] k d file lt = absurd (omega arith)
name_at (x ∷ xs) zero d file lt = refl
name_at (x ∷ xs) (suc k) d file lt = name_at xs k d file (omega arith)

listed_led : (list : List FileText) (name : List ℕ) (k : ℕ) → k < length list → get_or (map (λ (f : FileText). f.name) list) k name ≡ name
    → IsSome (files_of list name)
listed_led [] name k lt is = absurd (omega arith)
listed_led (x ∷ xs) name zero lt is =
    subst (λ (b : Bool). IsSome (if b then Some x.bytes else files_of xs name))
    (sym (subst (λ (n : List ℕ). same_name n name ≡ true) (sym is) (same_name-same name))) refl
listed_led (x ∷ xs) name (suc k) lt is = by_test (same_name x.name name) (listed_led xs name k (omega arith) is)
  where
    by_test : (t : Bool) → IsSome (files_of xs name) → IsSome (if t then Some x.bytes else files_of xs name)
    by_test true rest = refl
    by_test false rest = rest

later : (x : List ℕ) (xs : List (List ℕ)) (y : List ℕ) → Contains xs y → Contains (x ∷ xs) y
later x xs y (k, lt, is) = (suc k, omega arith, is)

led_listed : (list : List FileText) (name : List ℕ) → IsSome (files_of list name) → Contains (map (λ (f : FileText). f.name) list) name
led_listed [] name some = cc
led_listed (x ∷ xs) name some = by_test (same_name x.name name) refl some (λ rest. led_listed xs name rest)
  where
    by_test : (t : Bool) → same_name x.name name ≡ t → IsSome (if t then Some x.bytes else files_of xs name)
        → (IsSome (files_of xs name) → Contains (map (λ (f : FileText). f.name) xs) name)
        → Contains (map (λ (f : FileText). f.name) (x ∷ xs)) name
    by_test true same _ listed = (0, omega arith, same_name-true x.name name same)
    by_test false other rest listed = later x.name (map (λ (f : FileText). f.name) xs) name (listed rest)

pub names_listed : (list : List FileText) → AreRising list → IsListing (files_of list) (map (λ (f : FileText). f.name) list)
names_listed list rising = record {
  sorted = λ i j d lt within.
      let long : length (map (λ (f : FileText). f.name) list) ≡ length list = length-map list (λ (f : FileText). f.name) in
      let inside : j < length list = omega (arith, long) in
      let file : FileText = record { name = d; bytes = [] } in
      subst (λ (x : List ℕ). slice_cmp nat_cmp x (get_or (map (λ (f : FileText). f.name) list) j d) ≡ Less)
      (sym (name_at list i d file (omega (arith, lt, inside))))
      (subst (λ (y : List ℕ). slice_cmp nat_cmp (get_or list i file).name y ≡ Less) (sym (name_at list j d file inside)) (rising i j file lt inside));
  files = λ name. (
    λ (k, lt, is). listed_led list name k (omega (arith, length-map list (λ (f : FileText). f.name))) is,
    λ some. led_listed list name some,
  );
}

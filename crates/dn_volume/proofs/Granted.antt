-- Whether anything stands in the way of an operation.
use Rattle.std.proofs.Common.{
  ◌≡◌,
  ◌⊎◌,
  inl,
  inr,
  ⊎_elim,
  ℕ,
  suc,
  ◌+◌,
  ◌<◌,
  ◌≤◌,
  true,
  false,
  List,
  [],
  ◌∷◌,
  length,
  refl,
  sym,
  ◌∙◌,
  ap,
  arith,
  Option,
  Some,
  None,
}
use Rattle.std.specs.Prelude.{All, IsSome}
use Rattle.std.proofs.lemmas.Bool.{cases_lt, cases_eq, cases_Bool}
use Rattle.std.proofs.lemmas.List.Elements.{All-nil, All-cons}
use Rattle.log_entry.specs.Name.{IsNameByte, IsLegal, same_name}
use Rattle.log_entry.proofs.SameName.{same_name-true, same_name-same}
use Rattle.dn_model.specs.Files.{Files}
use Rattle.dn_model.specs.Apply.{IsGranted, Finds, IsShort, Fits, names_of}
use Rattle.dn_model.specs.declared.op.Op.{Op}
use Rattle.dn_model.specs.declared.op.Op.TheVariants.{Create, Write, Read, Cut, Remove, Rename, Size, List as ListAll}

abbrev pub Decides : Type 0 → Type 0
Decides P = P ⊎ (P → ⊥)

le_or_not : (m n : ℕ) → Decides (m ≤ n)
le_or_not m n = ⊎_elim (λ lt. inr (λ le. omega (arith, lt, le))) (λ le. inl le) (cases_lt n m)

lt_or_not : (m n : ℕ) → Decides (m < n)
lt_or_not m n = ⊎_elim (λ lt. inl lt) (λ le. inr (λ lt. omega (arith, lt, le))) (cases_lt m n)

not_that : (P : Type 0) → Decides P → Decides (P → ⊥)
not_that P (inl is) = inr (λ f. f is)
not_that P (inr isnt) = inl isnt

all_or_not : {X : Type 0} (P : X → Type 0) → ((x : X) → Decides (P x)) → (xs : List X) → Decides (All P xs)
all_or_not P dec [] = inl (All-nil P)
all_or_not P dec (x ∷ xs) = by (dec x) (all_or_not P dec xs)
  where
    by : Decides (P x) → Decides (All P xs) → Decides (All P (x ∷ xs))
    by (inl here) (inl rest) = inl (All-cons P x xs here rest)
    by (inr not_here) rest = inr (λ all. not_here (all 0 x (omega arith)))
    by (inl here) (inr not_rest) = inr (λ all. not_rest (λ k d lt. all (suc k) d (omega (arith, lt))))

byte_or_not : (b : ℕ) → Decides (IsNameByte b)
byte_or_not b = by (le_or_not 33 b) (lt_or_not b 256) (not_that _ (cases_eq b 127)) (not_that _ (cases_eq b 47))
  where
    by : Decides (33 ≤ b) → Decides (b < 256) → Decides (b ≡ 127 → ⊥) → Decides (b ≡ 47 → ⊥) → Decides (IsNameByte b)
    by (inl a) (inl c) (inl e) (inl f) = inl (record { high = a; byte = c; not_delete = e; not_slash = f })
    by (inr a) c e f = inr (λ is. a is.high)
    by (inl a) (inr c) e f = inr (λ is. c is.byte)
    by (inl a) (inl c) (inr e) f = inr (λ is. e is.not_delete)
    by (inl a) (inl c) (inl e) (inr f) = inr (λ is. f is.not_slash)

apart_or_not : (x y : List ℕ) → Decides (x ≡ y)
apart_or_not x y = ⊎_elim (λ same. inl (same_name-true x y same))
    (λ other. inr (λ is. clash (same_name x y) other (ap (same_name x) (sym is) ∙ same_name-same x))) (cases_Bool (same_name x y))
  where
    clash : (b : _) → b ≡ false → b ≡ true → ⊥
    clash b low high = cc

legal_or_not : (name : List ℕ) → Decides (IsLegal name)
legal_or_not name = by (le_or_not 1 (length name)) (le_or_not (length name) 255) (all_or_not IsNameByte byte_or_not name)
    (not_that _ (apart_or_not name (46 ∷ []))) (not_that _ (apart_or_not name (46 ∷ 46 ∷ [])))
  where
    by : Decides (1 ≤ length name) → Decides (length name ≤ 255) → Decides (All IsNameByte name) → Decides (name ≡ 46 ∷ [] → ⊥)
        → Decides (name ≡ 46 ∷ 46 ∷ [] → ⊥) → Decides (IsLegal name)
    by (inl a) (inl c) (inl e) (inl f) (inl g) = inl (record { some = a; few = c; bytes = e; not_dot = f; not_dots = g })
    by (inr a) c e f g = inr (λ is. a is.some)
    by (inl a) (inr c) e f g = inr (λ is. c is.few)
    by (inl a) (inl c) (inr e) f g = inr (λ is. e is.bytes)
    by (inl a) (inl c) (inl e) (inr f) g = inr (λ is. f is.not_dot)
    by (inl a) (inl c) (inl e) (inl f) (inr g) = inr (λ is. g is.not_dots)

some_or_not : (o : Option (List ℕ)) → Decides (IsSome o)
some_or_not None = inr (λ is. cc is)
some_or_not (Some bytes) = inl refl

none_or_not : (o : Option (List ℕ)) → Decides (o ≡ None)
none_or_not None = inl refl
none_or_not (Some bytes) = inr (λ is. cc is)

found_or_not : (f : Files) (op : Op) → Decides (Finds f op)
found_or_not f (Create name) = none_or_not (f name)
found_or_not f (Write name at bytes) = some_or_not (f name)
found_or_not f (Read name at count) = some_or_not (f name)
found_or_not f (Cut name size) = some_or_not (f name)
found_or_not f (Remove name) = some_or_not (f name)
found_or_not f (Rename from to) = some_or_not (f from)
found_or_not f (Size name) = some_or_not (f name)
found_or_not f ListAll = inl tt

short_or_not : (op : Op) → Decides (IsShort op)
short_or_not (Create name) = inl tt
short_or_not (Write name at bytes) = le_or_not (length bytes) 65536
short_or_not (Read name at count) = le_or_not count 65536
short_or_not (Cut name size) = inl tt
short_or_not (Remove name) = inl tt
short_or_not (Rename from to) = inl tt
short_or_not (Size name) = inl tt
short_or_not ListAll = inl tt

fits_or_not : (op : Op) → Decides (Fits op)
fits_or_not (Create name) = inl tt
fits_or_not (Write name at []) = inl (inl refl)
fits_or_not (Write name at (b ∷ bytes)) = by (le_or_not (at + length (b ∷ bytes)) 16777216)
  where
    by : Decides (at + length (b ∷ bytes) ≤ 16777216) → Decides (((b ∷ bytes) ≡ []) ⊎ (at + length (b ∷ bytes) ≤ 16777216))
    by (inl le) = inl (inr le)
    by (inr more) = inr (λ is. ⊎_elim (λ (none : (b ∷ bytes) ≡ []). cc none) (λ le. more le) is)
fits_or_not (Read name at count) = inl tt
fits_or_not (Cut name size) = le_or_not size 16777216
fits_or_not (Remove name) = inl tt
fits_or_not (Rename from to) = inl tt
fits_or_not (Size name) = inl tt
fits_or_not ListAll = inl tt

pub granted_or_not : (f : Files) (op : Op) → Decides (IsGranted f op)
granted_or_not f op = by (all_or_not IsLegal legal_or_not (names_of op)) (found_or_not f op) (short_or_not op) (fits_or_not op)
  where
    by : Decides (All IsLegal (names_of op)) → Decides (Finds f op) → Decides (IsShort op) → Decides (Fits op) → Decides (IsGranted f op)
    by (inl a) (inl c) (inl e) (inl g) = inl (record { legal = a; finds = c; short = e; fits = g })
    by (inr a) c e g = inr (λ is. a is.legal)
    by (inl a) (inr c) e g = inr (λ is. c is.finds)
    by (inl a) (inl c) (inr e) g = inr (λ is. e is.short)
    by (inl a) (inl c) (inl e) (inr g) = inr (λ is. g is.fits)

-- Longer scripts need no less.
use Rattle.std.proofs.Common.{◌≡◌, ◌≢◌, ◌⊎◌, inl, inr, ⊎_elim, ℕ, zero, suc, ◌+◌, ◌<◌, ◌≤◌, List, [], ◌∷◌, length, refl, sym, ap, subst, arith, Some}
use Rattle.std.specs.Prelude.{Contains, slice_get}
use Rattle.std.proofs.lemmas.Bool.{cases_lt}
use Rattle.dn_model.specs.Disk.{Disk}
use Rattle.dn_model.specs.Files.{files}
use Rattle.dn_model.specs.Apply.{IsGranted}
use Rattle.dn_model.specs.History.{needed, IsNeed, AreNeeds, IsShortOfSpace}
use Rattle.dn_model.specs.declared.op.Op.{Op}
use Rattle.law_unique.proofs.Listings.{here, later, none_listed, cons_cases}
use Rattle.dn_volume.proofs.Granted.{Decides, granted_or_not}

-- the greatest need of a script's operations, 0 where none is granted
abbrev pub Tops : Disk → List Op → ℕ → Type 0
Tops d script n = ((op : Op) × Contains script op × IsGranted (files d) op × (needed d op ≡ n)) ⊎ (n ≡ 0)

record IsTop (d : Disk) (script : List Op) (n : ℕ) : Type 0 where
  pub reached : Tops d script n
  pub most : (op : Op) → Contains script op → IsGranted (files d) op → needed d op ≤ n
  pub none : ((op : Op) × Contains script op × IsGranted (files d) op × (needed d op ≡ n))
      ⊎ ((n ≡ 0) × ((op : Op) → Contains script op → IsGranted (files d) op → ⊥))

of_need : (d : Disk) (script : List Op) (n : ℕ) → IsNeed d script n → IsTop d script n
of_need d [] n is = record {
  reached = inr is;
  most = λ op has granted. absurd (none_listed op has);
  none = inr (is, λ op has granted. none_listed op has);
}
of_need d (op ∷ script) n is =
    ⊎_elim (λ top. record { reached = inl top.0; most = top.1; none = inl top.0 })
    (λ none. record { reached = inr none.0; most = λ o has granted. absurd (none.1 o has granted); none = inr none }) is

to_need : (d : Disk) (script : List Op) (n : ℕ) → IsTop d script n → IsNeed d script n
to_need d [] n top = ⊎_elim (λ found. absurd (none_listed found.0 found.1)) (λ is. is) top.reached
to_need d (op ∷ script) n top = ⊎_elim (λ found. inl (found, top.most)) (λ none. inr none) top.none

-- each script has one
top_of : (d : Disk) (script : List Op) → (n : ℕ) × IsTop d script n
top_of d [] = (0, of_need d [] 0 refl)
top_of d (op ∷ script) = by (top_of d script) (granted_or_not (files d) op)
  where
    shifted : (n : ℕ) → ((o : Op) × Contains script o × IsGranted (files d) o × (needed d o ≡ n))
        → ((o : Op) × Contains (op ∷ script) o × IsGranted (files d) o × (needed d o ≡ n))
    shifted n found = (found.0, later op found.0 script found.1, found.2, found.3)

    no_more : (n : ℕ) → (IsGranted (files d) op → ⊥) → IsTop d script n → IsTop d (op ∷ script) n
    no_more n not top = record {
      reached = ⊎_elim (λ found. inl (shifted n found)) (λ is. inr is) top.reached;
      most = λ o has granted. ⊎_elim (λ same. absurd (not (subst (IsGranted (files d)) (sym same) granted))) (λ rest. top.most o rest granted)
          (cons_cases op o script has);
      none = ⊎_elim (λ found. inl (shifted n found))
          (λ none. inr (
            none.0,
            λ o has granted. ⊎_elim (λ same. not (subst (IsGranted (files d)) (sym same) granted)) (λ rest. none.1 o rest granted)
                (cons_cases op o script has),
          )) top.none;
    }

    greater : (n : ℕ) → IsGranted (files d) op → n ≤ needed d op → IsTop d script n → IsTop d (op ∷ script) (needed d op)
    greater n granted le top = record {
      reached = inl (op, here op script, granted, refl);
      most = λ o has is. ⊎_elim (λ same. subst (λ (p : Op). needed d p ≤ needed d op) same (omega arith))
          (λ rest. omega (arith, le, top.most o rest is)) (cons_cases op o script has);
      none = inl (op, here op script, granted, refl);
    }

    less : (n : ℕ) → IsGranted (files d) op → needed d op < n → IsTop d script n → IsTop d (op ∷ script) n
    less n granted lt top =
        let found : (o : Op) × Contains script o × IsGranted (files d) o × (needed d o ≡ n) = ⊎_elim (λ found. found)
        (λ is. absurd (omega (arith, lt, is))) top.reached in
        record {
          reached = inl (shifted n found);
          most = λ o has is. ⊎_elim (λ same. subst (λ (p : Op). needed d p ≤ n) same (omega (arith, lt))) (λ rest. top.most o rest is)
              (cons_cases op o script has);
          none = inl (shifted n found);
        }

    by : ((n : ℕ) × IsTop d script n) → Decides (IsGranted (files d) op) → (n : ℕ) × IsTop d (op ∷ script) n
    by (n, top) (inr not) = (n, no_more n not top)
    by (n, top) (inl granted) = ⊎_elim (λ lt. (n, less n granted lt top)) (λ le. (needed d op, greater n granted le top)) (cases_lt (needed d op) n)

-- a script with these operations too needs no less
abbrev pub Grown : List Op → List Op → Type 0
Grown short long = (op : Op) → Contains short op → Contains long op

more_need : (d : Disk) (short long : List Op) (n m : ℕ) → Grown short long → IsTop d short n → IsTop d long m → n ≤ m
more_need d short long n m grown top top' =
    ⊎_elim (λ found. subst (λ (k : ℕ). k ≤ m) found.3 (top'.most found.0 (grown found.0 found.1) found.2)) (λ is. omega (arith, is)) top.reached

-- each script of the one list is grown in the other
pub data AreGrown : List (List Op) → List (List Op) → Type 0 where
  no_scripts : AreGrown [] []
  one_script : (short long : List Op) (shorts longs : List (List Op)) → Grown short long → AreGrown shorts longs
      → AreGrown (short ∷ shorts) (long ∷ longs)

pub more_needs : (d : Disk) (shorts longs : List (List Op)) (n : ℕ) → AreGrown shorts longs → AreNeeds d shorts n
    → (m : ℕ) × AreNeeds d longs m × (n ≤ m)
more_needs d [] [] n no_scripts is = (n, is, omega arith)
more_needs d [] (long ∷ longs) n grown is = elim grown [ ]
more_needs d (short ∷ shorts) [] n grown is = elim grown [ ]
more_needs d (short ∷ shorts) (long ∷ longs) n (one_script _ _ _ _ grown rest) (k, m, need, needs, sum) =
    let here' = top_of d long in
    let more = more_needs d shorts longs m rest needs in (
      here'.0 + more.0,
      (here'.0, more.0, to_need d long here'.0 here'.1, more.1, refl),
      omega (arith, sum, more.2, more_need d short long k here'.0 grown (of_need d short k need) here'.1),
    )

pub still_short : (d : Disk) (shorts longs : List (List Op)) (op : Op) (need free : ℕ) → AreGrown shorts longs → IsShortOfSpace d shorts op need free
    → IsShortOfSpace d longs op need free
still_short d shorts longs op need free grown short =
    let more = more_needs d shorts longs short.x grown short.others in
    record {
      is_need = short.is_need;
      some = short.some;
      lacks = short.lacks;
      x = more.0;
      others = more.1;
      h = short.h;
      half = short.half;
      few = λ pages apart free'. omega (arith, more.2, short.few pages apart free');
    }

pub same_grown : (scripts : List (List Op)) → AreGrown scripts scripts
same_grown [] = no_scripts
same_grown (script ∷ scripts) = one_script script script scripts scripts (λ op has. has) (same_grown scripts)

-- this script gets an operation more
abbrev pub put_op : ℕ → Op → List (List Op) → List (List Op)
put_op i op [] = []
put_op zero op (script ∷ scripts) = (op ∷ script) ∷ scripts
put_op (suc i) op (script ∷ scripts) = script ∷ put_op i op scripts

pub put_grown : (i : ℕ) (op : Op) (scripts : List (List Op)) → AreGrown scripts (put_op i op scripts)
put_grown i op [] = no_scripts
put_grown zero op (script ∷ scripts) = one_script script (op ∷ script) scripts scripts (λ o has. later op o script has) (same_grown scripts)
put_grown (suc i) op (script ∷ scripts) = one_script script script scripts (put_op i op scripts) (λ o has. has) (put_grown i op scripts)

pub put_length : (i : ℕ) (op : Op) (scripts : List (List Op)) → length (put_op i op scripts) ≡ length scripts
put_length i op [] = refl
put_length zero op (script ∷ scripts) = refl
put_length (suc i) op (script ∷ scripts) = ap suc (put_length i op scripts)

pub put_other : (i j : ℕ) (op : Op) (scripts : List (List Op)) → i ≢ j → slice_get (put_op i op scripts) j ≡ slice_get scripts j
put_other i j op [] other = refl
put_other zero zero op (script ∷ scripts) other = absurd (other refl)
put_other zero (suc j) op (script ∷ scripts) other = refl
put_other (suc i) zero op (script ∷ scripts) other = refl
put_other (suc i) (suc j) op (script ∷ scripts) other = put_other i j op scripts (λ same. other (ap suc same))

pub put_here : (i : ℕ) (op : Op) (scripts : List (List Op)) (script : List Op) → slice_get scripts i ≡ Some script → slice_get (put_op i op scripts)
    i ≡ Some (op ∷ script)
put_here i op [] script is = absurd (cc is)
put_here zero op (first ∷ scripts) script is = let same : first ≡ script = cc is in ap (λ (s : List Op). Some (op ∷ s)) same
put_here (suc i) op (first ∷ scripts) script is = put_here i op scripts script is

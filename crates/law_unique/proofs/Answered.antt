-- An operation has one reply, a history one end, and operations on other names may be done in either order.
use Rattle.std.proofs.Common.{
  ◌≡◌,
  ◌≢◌,
  ◌⊎◌,
  inl,
  inr,
  ⊎_elim,
  ℕ,
  Bool,
  true,
  false,
  List,
  [],
  ◌∷◌,
  ◌++◌,
  length,
  take,
  drop,
  refl,
  sym,
  ◌∙◌,
  ap,
  subst,
  Option,
  Some,
  None,
}
use Rattle.std.specs.Prelude.{Contains, IsSome, if◌then◌else◌}
use Rattle.std.proofs.lemmas.Bool.{cases_Bool}
use Rattle.log_entry.specs.Name.{same_name}
use Rattle.log_entry.proofs.SameName.{same_name-true, same_name-same}
use Rattle.dn_model.specs.Files.{Files, IsSameFiles}
use Rattle.dn_model.specs.Apply.{
  Replies,
  grants,
  bad_name,
  missed,
  too_long,
  too_big,
  Grants,
  IsGranted,
  Finds,
  after_op,
  with_file,
  written,
  resized,
  bytes_or_none,
  names_of,
}
use Rattle.dn_model.specs.History.{Step, done, refused, no_inode, no_space, Legal}
use Rattle.dn_model.specs.declared.op.Op.{Op}
use Rattle.dn_model.specs.declared.op.Op.TheVariants.{Create, Write, Read, Cut, Remove, Rename, Size, List as ListAll}
use Rattle.dn_model.specs.declared.op.Entry.{Entry}
use Rattle.dn_model.specs.declared.op.Reply.{Reply}
use Rattle.dn_model.specs.declared.op.Reply.TheVariants.{Done, Bytes, Number, Names, Refused}
use Rattle.dn_model.specs.declared.op.Refusal.{Refusal}
use Rattle.dn_model.specs.declared.op.Refusal.TheVariants.{BadName, TooLong, TooBig, NoInode, NoSpace}
use Rattle.dn_model.specs.Apply.{miss}
use Rattle.law_unique.specs.Operations.{
  HasOneReply,
  IsGrantedOrRefused,
  IsOfFiles,
  HasOneEnd,
  IsLegalInParts,
  Commute,
  IsAnsweredAlike,
  IsGrantedAlike,
  IsRefusal,
}
use Rattle.law_unique.proofs.Listings.{listing_one, here, later, none_listed, cons_cases}

-- Replies.
grant_one : (f : Files) (op : Op) (r s : Reply) → Grants f op r → Grants f op s → r ≡ s
grant_one f (Create name) r s x y = x ∙ sym y
grant_one f (Write name at bytes) r s x y = x ∙ sym y
grant_one f (Read name at long) r s x y = x ∙ sym y
grant_one f (Cut name size) r s x y = x ∙ sym y
grant_one f (Remove name) r s x y = x ∙ sym y
grant_one f (Rename from to) r s x y = x ∙ sym y
grant_one f (Size name) r s x y = x ∙ sym y
grant_one f ListAll r s x y = x.2 ∙ ap Names (listing_one f x.0 y.0 x.1 y.1) ∙ sym y.2

not_refused : (r s : Reply) (why : Refusal) → r ≡ s → r ≡ Refused why → s ≡ Refused why
not_refused r s why x y = sym x ∙ y

grant_no_refusal : (f : Files) (op : Op) (r : Reply) → Grants f op r → IsRefusal r → ⊥
grant_no_refusal f (Create name) r x y = let e : Done ≡ Refused y.0 = sym x ∙ y.1 in cc
grant_no_refusal f (Write name at bytes) r x y = let e : Done ≡ Refused y.0 = sym x ∙ y.1 in cc
grant_no_refusal f (Read name at long) r x y = let e : Bytes (take long (drop at (bytes_or_none (f name)))) ≡ Refused y.0 = sym x ∙ y.1 in cc
grant_no_refusal f (Cut name size) r x y = let e : Done ≡ Refused y.0 = sym x ∙ y.1 in cc
grant_no_refusal f (Remove name) r x y = let e : Done ≡ Refused y.0 = sym x ∙ y.1 in cc
grant_no_refusal f (Rename from to) r x y = let e : Done ≡ Refused y.0 = sym x ∙ y.1 in cc
grant_no_refusal f (Size name) r x y = let e : Number (length (bytes_or_none (f name))) ≡ Refused y.0 = sym x ∙ y.1 in cc
grant_no_refusal f ListAll r x y = let e : Names x.0 ≡ Refused y.0 = sym x.2 ∙ y.1 in cc

pub reply_one : HasOneReply
reply_one f op r s (grants l fi sh ft x) (grants l' fi' sh' ft' y) = grant_one f op r s x y
reply_one f op r s (grants l fi sh ft x) (bad_name bad e) = absurd (bad l)
reply_one f op r s (grants l fi sh ft x) (missed l' bad e) = absurd (bad fi)
reply_one f op r s (grants l fi sh ft x) (too_long l' fi' bad e) = absurd (bad sh)
reply_one f op r s (grants l fi sh ft x) (too_big l' fi' sh' bad e) = absurd (bad ft)
reply_one f op r s (bad_name bad e) (grants l' fi' sh' ft' y) = absurd (bad l')
reply_one f op r s (bad_name bad e) (bad_name bad' e') = e ∙ sym e'
reply_one f op r s (bad_name bad e) (missed l' bad' e') = absurd (bad l')
reply_one f op r s (bad_name bad e) (too_long l' fi' bad' e') = absurd (bad l')
reply_one f op r s (bad_name bad e) (too_big l' fi' sh' bad' e') = absurd (bad l')
reply_one f op r s (missed l bad e) (grants l' fi' sh' ft' y) = absurd (bad fi')
reply_one f op r s (missed l bad e) (bad_name bad' e') = absurd (bad' l)
reply_one f op r s (missed l bad e) (missed l' bad' e') = e ∙ sym e'
reply_one f op r s (missed l bad e) (too_long l' fi' bad' e') = absurd (bad fi')
reply_one f op r s (missed l bad e) (too_big l' fi' sh' bad' e') = absurd (bad fi')
reply_one f op r s (too_long l fi bad e) (grants l' fi' sh' ft' y) = absurd (bad sh')
reply_one f op r s (too_long l fi bad e) (bad_name bad' e') = absurd (bad' l)
reply_one f op r s (too_long l fi bad e) (missed l' bad' e') = absurd (bad' fi)
reply_one f op r s (too_long l fi bad e) (too_long l' fi' bad' e') = e ∙ sym e'
reply_one f op r s (too_long l fi bad e) (too_big l' fi' sh' bad' e') = absurd (bad sh')
reply_one f op r s (too_big l fi sh bad e) (grants l' fi' sh' ft' y) = absurd (bad ft')
reply_one f op r s (too_big l fi sh bad e) (bad_name bad' e') = absurd (bad' l)
reply_one f op r s (too_big l fi sh bad e) (missed l' bad' e') = absurd (bad' fi)
reply_one f op r s (too_big l fi sh bad e) (too_long l' fi' bad' e') = absurd (bad' sh)
reply_one f op r s (too_big l fi sh bad e) (too_big l' fi' sh' bad' e') = e ∙ sym e'

pub granted_or_refused : IsGrantedOrRefused
granted_or_refused f op r (grants l fi sh ft x) =
    inl (record { granted = record { legal = l; finds = fi; short = sh; fits = ft }; as_granted = x; no_refusal = grant_no_refusal f op r x })
granted_or_refused f op r (bad_name bad e) = inr (record { not_granted = λ y. bad y.legal; refusal = (BadName, e) })
granted_or_refused f op r (missed l bad e) = inr (record { not_granted = λ y. bad y.finds; refusal = (miss op, e) })
granted_or_refused f op r (too_long l fi bad e) = inr (record { not_granted = λ y. bad y.short; refusal = (TooLong, e) })
granted_or_refused f op r (too_big l fi sh bad e) = inr (record { not_granted = λ y. bad y.fits; refusal = (TooBig, e) })

-- files that are the same at each name are the same
pub same_files : (f g : Files) → IsSameFiles f g → f ≡ g
same_files f g same = λ i. λ name. same name i

pub of_files : IsOfFiles
of_files f g same =
    let e : f ≡ g = same_files f g same in
    record {
      replies = λ op reply x. subst (λ (h : Files). Replies h op reply) e x;
      grants = λ op reply x. subst (λ (h : Files). Grants h op reply) e x;
      granted = λ op x. subst (λ (h : Files). IsGranted h op) e x;
      after = λ op name. ap (λ (h : Files). after_op h op name) e;
      step_from = λ op reply new x. subst (λ (h : Files). Step h op reply new) e x;
      step_to = λ old op reply x. subst (λ (h : Files). Step old op reply h) e x;
      legal_from = λ history new x. subst (λ (h : Files). Legal h history new) e x;
      legal_to = λ old history x. subst (λ (h : Files). Legal old history h) e x;
    }

-- Histories.
module _ (old : Files) (op : Op) (reply : Reply) (f g : Files) where
  from_one : (h : Files) → IsSameFiles f h → IsSameFiles g h → IsSameFiles f g
  from_one h x y = λ name. x name ∙ sym (y name)

  step_one : Step old op reply f → Step old op reply g → IsSameFiles f g
  step_one (done gr x s) (done gr' x' s') = from_one (after_op old op) s s'
  step_one (done gr x s) (refused bad r s') = absurd (bad gr)
  step_one (done gr x s) (no_inode gr' x' e s') = absurd (grant_no_refusal old op reply x (NoInode, e))
  step_one (done gr x s) (no_space n k gr' x' e s') = absurd (grant_no_refusal old op reply x (NoSpace n k, e))
  step_one (refused bad r s) (done gr' x' s') = absurd (bad gr')
  step_one (refused bad r s) (refused bad' r' s') = from_one old s s'
  step_one (refused bad r s) (no_inode gr' x' e s') = absurd (bad gr')
  step_one (refused bad r s) (no_space n k gr' x' e s') = absurd (bad gr')
  step_one (no_inode gr x e s) (done gr' x' s') = absurd (grant_no_refusal old op reply x' (NoInode, e))
  step_one (no_inode gr x e s) (refused bad r s') = absurd (bad gr)
  step_one (no_inode gr x e s) (no_inode gr' x' e' s') = from_one old s s'
  step_one (no_inode gr x e s) (no_space n k gr' x' e' s') = from_one old s s'
  step_one (no_space n k gr x e s) (done gr' x' s') = absurd (grant_no_refusal old op reply x' (NoSpace n k, e))
  step_one (no_space n k gr x e s) (refused bad r s') = absurd (bad gr)
  step_one (no_space n k gr x e s) (no_inode gr' x' e' s') = from_one old s s'
  step_one (no_space n k gr x e s) (no_space n' k' gr' x' e' s') = from_one old s s'

pub end_one : HasOneEnd
end_one old f g [] x y = λ name. x name ∙ sym (y name)
end_one old f g (entry ∷ entries) x y =
    let e : x.0 ≡ y.0 = same_files x.0 y.0 (step_one old entry.op entry.reply x.0 y.0 x.1 y.1) in
    end_one x.0 f g entries x.2 (subst (λ (h : Files). Legal h entries g) (sym e) y.2)

split : (old new : Files) (front rest : List Entry) → Legal old (front ++ rest) new → (mid : Files) × Legal old front mid × Legal mid rest new
split old new [] rest x = (old, (λ name. refl), x)
split old new (entry ∷ entries) rest x = let more = split x.0 new entries rest x.2 in (more.0, (x.0, x.1, more.1), more.2)

join : (old new : Files) (front rest : List Entry) (mid : Files) → Legal old front mid → Legal mid rest new → Legal old (front ++ rest) new
join old new [] rest mid x y = subst (λ (h : Files). Legal h rest new) (same_files mid old x) y
join old new (entry ∷ entries) rest mid x y = (x.0, x.1, join x.0 new entries rest mid x.2 y)

pub legal_parts : IsLegalInParts
legal_parts old new front rest = (split old new front rest, λ x. join old new front rest x.0 x.1 x.2)

-- Operations on other names.
other_test : (n m : List ℕ) → n ≢ m → same_name n m ≡ false
other_test n m ne = ⊎_elim (λ (t : same_name n m ≡ true). absurd (ne (same_name-true n m t))) (λ (t : same_name n m ≡ false). t)
    (cases_Bool (same_name n m))

listed_cases : (names : List (List ℕ)) (name : List ℕ) → Contains names name ⊎ (Contains names name → ⊥)
listed_cases [] name = inr (none_listed name)
listed_cases (n ∷ names) name = by_test (cases_Bool (same_name n name)) (listed_cases names name)
  where
    by_test : ((same_name n name ≡ true) ⊎ (same_name n name ≡ false)) → (Contains names name ⊎ (Contains names name → ⊥))
        → Contains (n ∷ names) name ⊎ (Contains (n ∷ names) name → ⊥)
    by_test (inl t) more = inl (subst (Contains (n ∷ names)) (same_name-true n name t) (here n names))
    by_test (inr t) (inl found) = inl (later n name names found)
    by_test (inr t) (inr none) = inr (λ found. ⊎_elim
        (λ (e : n ≡ name). let same : same_name n name ≡ true = ap (same_name n) (sym e) ∙ same_name-same n in let bad : true ≡ false = sym
        same ∙ t in cc)
        none (cons_cases n name names found))

with_other : (f : Files) (n name : List ℕ) (x : Option (List ℕ)) → n ≢ name → with_file f n x name ≡ f name
with_other f n name x ne = ap (λ (b : Bool). if b then x else f name) (other_test n name ne)

-- another name leads where it led
frame : (f : Files) (op : Op) (name : List ℕ) → (Contains (names_of op) name → ⊥) → after_op f op name ≡ f name
frame f (Create n) name out = with_other f n name (Some []) (λ e. out (subst (Contains (n ∷ [])) e (here n [])))
frame f (Write n at []) name out = refl
frame f (Write n at (b ∷ bytes)) name out = with_other f n name _ (λ e. out (subst (Contains (n ∷ [])) e (here n [])))
frame f (Read n at long) name out = refl
frame f (Cut n size) name out = with_other f n name _ (λ e. out (subst (Contains (n ∷ [])) e (here n [])))
frame f (Remove n) name out = with_other f n name None (λ e. out (subst (Contains (n ∷ [])) e (here n [])))
frame f (Rename from to) name out =
    with_other (with_file f from None) to name (f from) (λ e. out (subst (Contains (from ∷ to ∷ [])) e (later from to (to ∷ []) (here to []))))
    ∙ with_other f from name None (λ e. out (subst (Contains (from ∷ to ∷ [])) e (here from (to ∷ []))))
frame f (Size n) name out = refl
frame f ListAll name out = refl

abbrev AgreeOn : List (List ℕ) → Files → Files → Type 0
AgreeOn names f g = (name : List ℕ) → Contains names name → f name ≡ g name

-- what comes of a name is a matter of that name and the operation's names
local : (f g : Files) (op : Op) (name : List ℕ) → AgreeOn (names_of op) f g → f name ≡ g name → after_op f op name ≡ after_op g op name
local f g (Create n) name agree e = λ i. if same_name n name then Some [] else e i
local f g (Write n at []) name agree e = e
local f g (Write n at (b ∷ bytes)) name agree e = λ i. if same_name n name then Some (written (bytes_or_none (agree n (here n []) i)) at (b ∷ bytes))
    else e i
local f g (Read n at long) name agree e = e
local f g (Cut n size) name agree e = λ i. if same_name n name then Some (resized (bytes_or_none (agree n (here n []) i)) size) else e i
local f g (Remove n) name agree e = λ i. if same_name n name then None else e i
local f g (Rename from to) name agree e = λ i. if same_name to name then agree from (here from (to ∷ [])) i else
    (if same_name from name then None else e i)
local f g (Size n) name agree e = e
local f g ListAll name agree e = e

pub commute : Commute
commute f p q apart name = by_place (listed_cases (names_of p) name)
  where
    p_agrees : AgreeOn (names_of p) (after_op f q) f
    p_agrees n in_p = frame f q n (λ in_q. apart n in_p in_q)

    q_agrees : AgreeOn (names_of q) (after_op f p) f
    q_agrees n in_q = frame f p n (λ in_p. apart n in_p in_q)

    by_place : (Contains (names_of p) name ⊎ (Contains (names_of p) name → ⊥)) → after_op (after_op f p) q name ≡ after_op (after_op f q) p name
    by_place (inl in_p) = frame (after_op f p) q name (λ in_q. apart name in_p in_q) ∙ sym
        (local (after_op f q) f p name p_agrees (p_agrees name in_p))
    by_place (inr out) = local (after_op f p) f q name q_agrees (frame f p name out) ∙ sym (frame (after_op f q) p name out)

finds_local : (f g : Files) (op : Op) → AgreeOn (names_of op) f g → Finds f op → Finds g op
finds_local f g (Create n) agree x = sym (agree n (here n [])) ∙ x
finds_local f g (Write n at bytes) agree x = subst IsSome (agree n (here n [])) x
finds_local f g (Read n at long) agree x = subst IsSome (agree n (here n [])) x
finds_local f g (Cut n size) agree x = subst IsSome (agree n (here n [])) x
finds_local f g (Remove n) agree x = subst IsSome (agree n (here n [])) x
finds_local f g (Rename from to) agree x = subst IsSome (agree from (here from (to ∷ []))) x
finds_local f g (Size n) agree x = subst IsSome (agree n (here n [])) x
finds_local f g ListAll agree x = tt

grants_local : (f g : Files) (op : Op) (r : Reply) → op ≢ ListAll → AgreeOn (names_of op) f g → Grants f op r → Grants g op r
grants_local f g (Create n) r ne agree x = x
grants_local f g (Write n at bytes) r ne agree x = x
grants_local f g (Read n at long) r ne agree x = x ∙ ap (λ (file : Option (List ℕ)). Bytes (take long (drop at (bytes_or_none file))))
    (agree n (here n []))
grants_local f g (Cut n size) r ne agree x = x
grants_local f g (Remove n) r ne agree x = x
grants_local f g (Rename from to) r ne agree x = x
grants_local f g (Size n) r ne agree x = x ∙ ap (λ (file : Option (List ℕ)). Number (length (bytes_or_none file))) (agree n (here n []))
grants_local f g ListAll r ne agree x = absurd (ne refl)

back : (names : List (List ℕ)) (f g : Files) → AgreeOn names f g → AgreeOn names g f
back names f g agree = λ n found. sym (agree n found)

replies_local : (f g : Files) (op : Op) (r : Reply) → op ≢ ListAll → AgreeOn (names_of op) f g → Replies f op r → Replies g op r
replies_local f g op r ne agree (grants l fi sh ft x) = grants l (finds_local f g op agree fi) sh ft (grants_local f g op r ne agree x)
replies_local f g op r ne agree (bad_name bad e) = bad_name bad e
replies_local f g op r ne agree (missed l bad e) = missed l (λ fi. bad (finds_local g f op (back (names_of op) f g agree) fi)) e
replies_local f g op r ne agree (too_long l fi bad e) = too_long l (finds_local f g op agree fi) bad e
replies_local f g op r ne agree (too_big l fi sh bad e) = too_big l (finds_local f g op agree fi) sh bad e

pub answered_alike : IsAnsweredAlike
answered_alike f p q apart ne reply =
    let same : AgreeOn (names_of q) (after_op f p) f = λ n in_q. frame f p n (λ in_p. apart n in_p in_q) in
    (replies_local f (after_op f p) q reply ne (back (names_of q) (after_op f p) f same), replies_local (after_op f p) f q reply ne same)

pub granted_alike : IsGrantedAlike
granted_alike f p q apart =
    let same : AgreeOn (names_of q) (after_op f p) f = λ n in_q. frame f p n (λ in_p. apart n in_p in_q) in (
      (λ gr. record {
        legal = gr.legal;
        finds = finds_local f (after_op f p) q (back (names_of q) (after_op f p) f same) gr.finds;
        short = gr.short;
        fits = gr.fits;
      }),
      (λ gr. record { legal = gr.legal; finds = finds_local (after_op f p) f q same gr.finds; short = gr.short; fits = gr.fits }),
    )

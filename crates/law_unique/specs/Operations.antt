-- Laws of what an operation answers and makes of files.
use Rattle.std.specs.Prelude.{◌≡◌, ◌≢◌, ◌⊎◌, ◌↔◌, ℕ, List, ◌++◌, Contains}
use Rattle.dn_model.specs.Files.{Files, IsSameFiles}
use Rattle.dn_model.specs.Apply.{Replies, Grants, IsGranted, IsListing, after_op, names_of}
use Rattle.dn_model.specs.History.{Step, Legal}
use Rattle.dn_model.specs.declared.op.Op.{Op}
use Rattle.dn_model.specs.declared.op.Op.TheVariants.{List as ListAll}
use Rattle.dn_model.specs.declared.op.Entry.{Entry}
use Rattle.dn_model.specs.declared.op.Reply.{Reply}
use Rattle.dn_model.specs.declared.op.Reply.TheVariants.{Refused}
use Rattle.dn_model.specs.declared.op.Refusal.{Refusal}

-- the same files have one listing
abbrev pub HasOneListing : Type 0
HasOneListing = (f : Files) (xs ys : List (List ℕ)) → IsListing f xs → IsListing f ys → xs ≡ ys

-- one reply at most
abbrev pub HasOneReply : Type 0
HasOneReply = (f : Files) (op : Op) (r s : Reply) → Replies f op r → Replies f op s → r ≡ s

abbrev pub IsRefusal : Reply → Type 0
IsRefusal reply = (why : Refusal) × (reply ≡ Refused why)

-- what is granted is not refused
pub record MeetsGrant (f : Files) (op : Op) (reply : Reply) : Type 0 where
  pub granted : IsGranted f op
  pub as_granted : Grants f op reply
  pub no_refusal : IsRefusal reply → ⊥

pub record MeetsRefusal (f : Files) (op : Op) (reply : Reply) : Type 0 where
  pub not_granted : IsGranted f op → ⊥
  pub refusal : IsRefusal reply

-- a reply is that of an operation that nothing stands in the way of, or a refusal of one that
-- something does
abbrev pub IsGrantedOrRefused : Type 0
IsGrantedOrRefused = (f : Files) (op : Op) (reply : Reply) → Replies f op reply
    → MeetsGrant f op reply ⊎ MeetsRefusal f op reply

-- what is said of files stays at files with the same bytes at each name
pub record IsSaidAlike (f g : Files) : Type 0 where
  pub replies : (op : Op) (reply : Reply) → Replies f op reply → Replies g op reply
  pub grants : (op : Op) (reply : Reply) → Grants f op reply → Grants g op reply
  pub granted : (op : Op) → IsGranted f op → IsGranted g op
  pub after : (op : Op) → IsSameFiles (after_op f op) (after_op g op)
  pub step_from : (op : Op) (reply : Reply) (new : Files) → Step f op reply new
      → Step g op reply new
  pub step_to : (old : Files) (op : Op) (reply : Reply) → Step old op reply f → Step old op reply g
  pub legal_from : (history : List Entry) (new : Files) → Legal f history new → Legal g history new
  pub legal_to : (old : Files) (history : List Entry) → Legal old history f → Legal old history g

abbrev pub IsOfFiles : Type 0
IsOfFiles = (f g : Files) → IsSameFiles f g → IsSaidAlike f g

-- a history has one end
abbrev pub HasOneEnd : Type 0
HasOneEnd = (old f g : Files) (history : List Entry) → Legal old history f → Legal old history g
    → IsSameFiles f g

abbrev pub IsLegalInParts : Type 0
IsLegalInParts = (old new : Files) (front rest : List Entry) → Legal old (front ++ rest) new ↔
    ((mid : Files) × Legal old front mid × Legal mid rest new)

-- no name of the one is a name of the other
abbrev pub AreApart : Op → Op → Type 0
AreApart p q = (name : List ℕ) → Contains (names_of p) name → Contains (names_of q) name → ⊥

abbrev pub Commute : Type 0
Commute = (f : Files) (p q : Op) → AreApart p q → IsSameFiles (after_op (after_op f p) q)
    (after_op (after_op f q) p)

-- an operation that lists no files is answered the same before and after another
abbrev pub IsAnsweredAlike : Type 0
IsAnsweredAlike = (f : Files) (p q : Op) → AreApart p q → q ≢ ListAll → (reply : Reply)
    → Replies f q reply ↔ Replies (after_op f p) q reply

-- nor does another stand in its way
abbrev pub IsGrantedAlike : Type 0
IsGrantedAlike = (f : Files) (p q : Op) → AreApart p q → IsGranted f q ↔ IsGranted (after_op f p) q

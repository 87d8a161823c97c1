-- The replies to a Read and to a Write that isn't begun.
use Rattle.std.proofs.Common.{◌≡◌, ℕ, ◌<◌, ◌≤◌, List, [], ◌∷◌, take, drop, refl, sym, ◌∙◌, ap, arith, Option, Some, None}
use Rattle.std.specs.Prelude.{All, IsSome, is_some}
use Rattle.std.specs.Option.{option_map}
use Rattle.std.specs.FinMap.{get}
use Rattle.std.proofs.lemmas.List.Elements.{All-nil, All-cons, All-head}
use Rattle.pm_device.specs.State.{State}
use Rattle.log_entry.specs.Name.{IsLegal}
use Rattle.dn_model.specs.Disk.{Disk}
use Rattle.dn_model.specs.Files.{files, bytes}
use Rattle.dn_model.specs.Apply.{IsGranted, bytes_or_none, grants, bad_name, missed, too_long}
use Rattle.dn_model.specs.declared.op.Op.{Op}
use Rattle.dn_model.specs.declared.op.Op.TheVariants.{Create, Write, Read, Cut, Remove, Rename, Size, List as ListAll}
use Rattle.dn_model.specs.declared.op.Reply.{Reply}
use Rattle.dn_model.specs.declared.op.Reply.TheVariants.{Bytes, Refused}
use Rattle.dn_model.specs.declared.op.Refusal.{Refusal}
use Rattle.dn_model.specs.declared.op.Refusal.TheVariants as why
use Rattle.dn_volume.specs.declared.volume.Parts.{Parts}
use Rattle.dn_volume.specs.declared.volume.Volume.{Volume}
use Rattle.dn_volume.specs.Agrees.{IsVolume}
use Rattle.dn_volume.specs.Begins.{IsAtOnce, IsReadOp, IsAnswerOf, of_files}
use Rattle.data_begins.specs.Lookup.{IsFound, IsLookupRefusal}

pub one_legal : (name : List ℕ) → IsLegal name → All IsLegal (name ∷ [])
one_legal name legal = All-cons IsLegal name [] legal (All-nil IsLegal)

pub not_legal : (name : List ℕ) → (IsLegal name → ⊥) → All IsLegal (name ∷ []) → ⊥
not_legal name bad all = bad (All-head IsLegal name [] all)

module _ (d : Disk) (b : Parts) (s : State) (v : IsVolume d b s) where
  pub finds : (name : List ℕ) (ino : ℕ) → get b.names.map name ≡ Some ino → files d name ≡ Some (bytes d ino)
  finds name ino leads = ap (option_map (bytes d)) (sym (v.names.leads name) ∙ leads)

  pub found : (name : List ℕ) (ino : ℕ) → get b.names.map name ≡ Some ino → IsSome (files d name)
  found name ino leads = ap (λ (o : Option (List ℕ)). is_some o) (finds name ino leads)

  pub misses : (name : List ℕ) → get b.names.map name ≡ None → IsSome (files d name) → ⊥
  misses name none some = absurd_some (files d name) (ap (option_map (bytes d)) (sym (v.names.leads name) ∙ none)) some
    where
      absurd_some : (o : Option (List ℕ)) → o ≡ None → IsSome o → ⊥
      absurd_some None none some = cc some
      absurd_some (Some x) none some = cc none

  -- of a Read
  read_once : (name : List ℕ) (at count : ℕ) → IsGranted (files d) (Read name at count) → IsAtOnce (Read name at count)
  read_once name at count granted = tt

  pub read_refused : (name : List ℕ) (at count : ℕ) (refusal : Refusal) → IsLookupRefusal b.names.map name refusal
      → IsAnswerOf d b (Read name at count) (Refused refusal)
  read_refused name at count why.BadName bad = of_files (Refused why.BadName) (bad_name (not_legal name bad) refl) (read_once name at count)
  read_refused name at count why.NotFound is =
      of_files (Refused why.NotFound) (missed (one_legal name is.0) (misses name is.1) refl) (read_once name at count)
  read_refused name at count why.Exists is = absurd is
  read_refused name at count why.TooLong is = absurd is
  read_refused name at count why.TooBig is = absurd is
  read_refused name at count why.NoInode is = absurd is
  read_refused name at count (why.NoSpace needed free) is = absurd is

  pub read_too_long : (name : List ℕ) (at count ino : ℕ) → IsFound b.names.map name ino → 65536 < count
      → IsAnswerOf d b (Read name at count) (Refused why.TooLong)
  read_too_long name at count ino is many =
      of_files (Refused why.TooLong) (too_long (one_legal name is.legal) (found name ino is.leads) (λ few. omega (arith, many, few)) refl)
      (read_once name at count)

  pub read_found : (name : List ℕ) (at count ino : ℕ) (text : List ℕ) → IsFound b.names.map name ino → count ≤ 65536
      → text ≡ take count (drop at (bytes d ino)) → IsAnswerOf d b (Read name at count) (Bytes text)
  read_found name at count ino text is few same =
      of_files (Bytes text) (grants (one_legal name is.legal) (found name ino is.leads) few tt
      (ap Bytes (same ∙ ap (λ (o : Option (List ℕ)). take count (drop at (bytes_or_none o))) (sym (finds name ino is.leads)))))
      (read_once name at count)

-- a Read is answered at once
pub read_at_once : (op : Op) → IsReadOp op → IsAtOnce op
read_at_once (Create name) kind = absurd kind
read_at_once (Write name at text) kind = absurd kind
read_at_once (Read name at count) kind = tt
read_at_once (Cut name to) kind = absurd kind
read_at_once (Remove name) kind = absurd kind
read_at_once (Rename from to) kind = absurd kind
read_at_once (Size name) kind = absurd kind
read_at_once ListAll kind = absurd kind

-- the reply to an operation, where there was memory for it
abbrev pub RepliesTo : {D F : Type 0} → (D → State) → Volume D F → Op → Reply → Type 0
RepliesTo state v op reply = (d : Disk) → IsVolume d v.parts (state v.device) → IsAnswerOf d v.parts op reply

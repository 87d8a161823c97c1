-- Why the size of a file is answered so.
use Rattle.std.proofs.Common.{◌≡◌, ℕ, ◌<◌, List, [], ◌∷◌, length, refl, sym, ◌∙◌, ap, subst}
use Rattle.std.specs.Prelude.{slice_get, Option, Some, None, IsSome, All}
use Rattle.std.specs.Option.{option_map}
use Rattle.std.specs.FinMap.{get}
use Rattle.std.proofs.lemmas.List.Elements.{All-nil, All-cons, All-head}
use Rattle.pm_device.specs.State.{State}
use Rattle.log_entry.specs.Name.{IsLegal}
use Rattle.dn_model.specs.Disk.{Disk, IsUsed}
use Rattle.dn_model.specs.Files.{bytes, named, files}
use Rattle.dn_model.specs.Apply.{grants, bad_name, missed, bytes_or_none}
use Rattle.dn_model.specs.declared.op.Op.TheVariants.{Size}
use Rattle.dn_model.specs.declared.op.Reply.TheVariants.{Number, Refused}
use Rattle.dn_model.specs.declared.op.Refusal.{Refusal}
use Rattle.dn_model.specs.declared.op.Refusal.TheVariants as why
use Rattle.law_write.proofs.WriteBytes.{length-bytes}
use Rattle.dn_volume.specs.declared.volume.InodeState.{InodeState}
use Rattle.dn_volume.specs.declared.volume.Parts.{Parts}
use Rattle.dn_volume.specs.Agrees.{IsVolume}
use Rattle.dn_volume.specs.Begins.{IsAnswerOf, of_files}
use Rattle.data_begins.specs.Asked.{IsLiveFile}
use Rattle.data_begins.specs.Lookup.{IsFound, IsLookupRefusal}
use Rattle.data_begins.proofs.LiveFiles.{named_file, in_nodes}

module _ (d : Disk) (b : Parts) (s : State) (v : IsVolume d b s) (name : List ℕ) where
  pub leads : (ino : ℕ) → get b.names.map name ≡ Some ino → named d name ≡ Some ino
  leads ino is = sym (v.names.leads name) ∙ is

  pub live_file : (ino : ℕ) → get b.names.map name ≡ Some ino → IsLiveFile d ino
  live_file ino is = named_file d b s v name ino (leads ino is)

  pub found_in_nodes : (ino : ℕ) → get b.names.map name ≡ Some ino → ino < length b.inodes.items
  found_in_nodes ino is = in_nodes d b s v ino (live_file ino is)

  pub no_file : get b.names.map name ≡ None → IsSome (files d name) → ⊥
  no_file is some = gone (option_map (bytes d) (named d name)) (ap (option_map (bytes d)) (sym (v.names.leads name) ∙ is)) some
    where
      gone : (o : Option (List ℕ)) → o ≡ None → IsSome o → ⊥
      gone o none there = cc

  pub finds_file : (ino : ℕ) → get b.names.map name ≡ Some ino → IsSome (files d name)
  finds_file ino is = subst (λ (o : Option ℕ). IsSome (option_map (bytes d) o)) (sym (leads ino is)) refl

  pub legal_one : IsLegal name → All IsLegal (name ∷ [])
  legal_one legal = All-cons IsLegal name [] legal (All-nil IsLegal)

  -- no file is found
  pub size_refused : (refusal : Refusal) → IsLookupRefusal b.names.map name refusal → IsAnswerOf d b (Size name) (Refused refusal)
  size_refused why.BadName bad = of_files (Refused why.BadName) (bad_name (λ all. bad (All-head IsLegal name [] all)) refl) (λ _. tt)
  size_refused why.NotFound is = of_files (Refused why.NotFound) (missed (legal_one is.0) (no_file is.1) refl) (λ _. tt)
  size_refused why.Exists is = absurd is
  size_refused why.TooLong is = absurd is
  size_refused why.TooBig is = absurd is
  size_refused why.NoInode is = absurd is
  size_refused (why.NoSpace needed free) is = absurd is

  -- a file is found, of this size
  pub size_told : (ino : ℕ) → IsFound b.names.map name ino → (node : InodeState) → slice_get b.inodes.items ino ≡ Some node
      → IsAnswerOf d b (Size name) (Number node.size)
  size_told ino is node at = of_files (Number node.size) (grants (legal_one is.legal) (finds_file ino is.leads) tt tt (ap Number size_is)) (λ _. tt)
    where
      size_is : node.size ≡ length (bytes_or_none (files d name))
      size_is =
          sym ((v.inodes.each ino node at).size_is (subst IsUsed (sym (live_file ino is.leads).live) tt))
          ∙ sym (length-bytes d ino) ∙ ap (λ (o : Option ℕ). length (bytes_or_none (option_map (bytes d) o))) (sym (leads ino is.leads))

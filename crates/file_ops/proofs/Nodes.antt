-- What is kept of inodes, and who holds them, once a flight is ended.
use Rattle.std.proofs.Common.{◌≡◌, ◌≢◌, inl, inr, ⊎_elim, ℕ, ◌+◌, ◌-◌, ◌<◌, ◌≤◌, List, [], ◌∷◌, length, length-append, refl, sym, ◌∙◌, ap, subst, arith}
use Rattle.std.specs.Prelude.{slice_get, Option, Some, None, Contains}
use Rattle.std.specs.Option.{option_map}
use Rattle.std.proofs.lemmas.Bool.{cases_eq}
use Rattle.std.proofs.lemmas.Option.{slice_get_cases}
use Rattle.file_content.specs.Content.{kept}
use Rattle.dn_model.specs.Maps.{size_of}
use Rattle.dn_model.specs.Disk.{Disk, Inode, IsUsed}
use Rattle.law_write.proofs.MappedPlaces.{size-small}
use Rattle.law_write.proofs.WriteCounts.{maps_others}
use Rattle.law_write.proofs.WriteValid.{use_kept, was_used, written_valid}
use Rattle.dn_volume.specs.declared.flight.Flight.{Flight}
use Rattle.dn_volume.specs.declared.flight.DataChange.{DataChange}
use Rattle.dn_volume.specs.declared.volume.InodeState.{InodeState}
use Rattle.dn_volume.specs.declared.volume.Parts.{Parts}
use Rattle.dn_volume.specs.Parties.{Holds}
use Rattle.dn_volume.specs.Inodes.{as_use, IsInodeOf, AreInodesOf, AreHolders}
use Rattle.dn_volume.specs.Replaces.{Replaces}
use Rattle.dn_volume.proofs.Taken.{MovesHolder, holders_moved}
use Rattle.file_ops.specs.Ends.{ChangesData, ChangesInode}
use Rattle.file_ops.proofs.Basics.{only_one}

-- the element at a place
module _ {X : Type 0} where
  not_both : (r : Option X) (x : X) → r ≡ None → r ≡ Some x → ⊥
  not_both r x gone there = cc

  pub state_at : (xs : List X) (k : ℕ) → k < length xs → (x : X) × (slice_get xs k ≡ Some x)
  state_at xs k lt = by_it (slice_get xs k) refl
    where
      by_it : (r : Option X) → slice_get xs k ≡ r → (x : X) × (slice_get xs k ≡ Some x)
      by_it None is = absurd (⊎_elim (λ found. not_both (slice_get xs k) found.0 is found.2) (λ past. omega (arith, lt, past.0))
          (slice_get_cases xs k).1)
      by_it (Some x) is = (x, is)

-- a log grows by its fresh pages
pub log_grown : (d e : Disk) (f : Flight) (c : DataChange) (from n : ℕ) → ChangesData d e f c from n → (old new : InodeState)
    → IsInodeOf d f.ino old → new.log_pages ≡ old.log_pages + length f.fresh.items → length (e.inode f.ino).log.pages ≡ new.log_pages
log_grown d e f c from n disk old new was more =
    let long = ap (λ (xs : List ℕ). length xs) disk.event.grown.pages ∙ length-append (d.inode f.ino).log.pages disk.event.grown.fresh in
    let fresh = ap (λ (xs : List ℕ). length xs) disk.takes in
    let had = was.log_pages (was_used f.ino d e disk.event) in
    omega (arith, long, fresh, had, more)

none_not : (h : Option ℕ) (q : ℕ) → h ≡ None → h ≡ Some q → ⊥
none_not h q gone there = cc

module _ (d e : Disk) (b b' : Parts) (f : Flight) (c : DataChange) (from n : ℕ) (inodes : AreInodesOf d b.inodes.items)
    (disk : ChangesData d e f c from n) (change : ChangesInode e f.ino c.size b b') where
  pub old_state : (x : InodeState) × (slice_get b.inodes.items f.ino ≡ Some x)
  old_state = state_at b.inodes.items f.ino (omega (arith, disk.event.in_table, inodes.all))

  pub new_state : (x : InodeState) × (slice_get b'.inodes.items f.ino ≡ Some x)
  new_state = state_at b'.inodes.items f.ino (omega (arith, disk.event.in_table, inodes.all, change.all))

  same_inode : (ino : ℕ) (x : InodeState) → ino ≡ f.ino → slice_get b'.inodes.items ino ≡ Some x → IsInodeOf e ino x
  same_inode ino x same is =
      let was = inodes.each f.ino old_state.0 old_state.1 in
      let ends = change.here old_state.0 x old_state.1 (subst (λ (i : ℕ). slice_get b'.inodes.items i ≡ Some x) same is) in
      let size : size_of (e.inode f.ino).log ≡ x.size = disk.event.last_size ∙ disk.ends ∙ sym ends.size_is in
      subst (λ (i : ℕ). IsInodeOf e i x) (sym same) (record {
        use_is = use_kept f.ino d e disk.event f.ino ∙ was.use_is ∙ ap as_use (sym ends.used);
        size_is = λ used. size;
        log_pages = λ used. ends.log_pages;
        small = subst (λ (k : ℕ). k ≤ 16777216) size (size-small (e.inode f.ino).log ((written_valid f.ino d e disk.event disk.well).logs f.ino
            (subst (λ (k : ℕ). f.ino < k) (sym (ap (λ g. g.inodes) disk.event.relogs.geometry)) disk.event.in_table)
            (subst IsUsed (sym (use_kept f.ino d e disk.event f.ino)) (was_used f.ino d e disk.event))).spelled);
        places = ends.places;
      })

  other_inode : (ino : ℕ) (x : InodeState) → ino ≢ f.ino → slice_get b.inodes.items ino ≡ Some x → IsInodeOf e ino x
  other_inode ino x ne is =
      let was = inodes.each ino x is in
      let node = disk.event.relogs.others ino ne in
      record {
        use_is = ap (λ (i : Inode). i.use_of) node ∙ was.use_is;
        size_is = λ used. ap (λ (i : Inode). size_of i.log) node ∙ was.size_is (subst (λ (i : Inode). IsUsed i.use_of) node used);
        small = was.small;
        log_pages = λ used. ap (λ (i : Inode). length i.log.pages) node ∙ was.log_pages (subst (λ (i : Inode). IsUsed i.use_of) node used);
        places = λ idx. was.places idx ∙ ap (option_map kept) (sym (maps_others f.ino d e disk.event ino idx ne));
      }

  pub inodes_after : AreInodesOf e b'.inodes.items
  inodes_after = record {
    all = change.all ∙ inodes.all ∙ sym (ap (λ g. g.inodes) disk.event.relogs.geometry);
    each = λ ino x is. elim (cases_eq ino f.ino) [
      | inl same ↦ same_inode ino x same is
      | inr ne ↦ other_inode ino x ne (sym (change.others ino ne) ∙ is)
    ];
  }

  module _ (who : ℕ) (holders : AreHolders d b) (client : 1 ≤ who) (held : f.held.items ≡ f.ino ∷ [])
      (ended : Replaces (who - 1) (Some f) None b b') where
    no_inode : (ino : ℕ) → Contains [] ino → ⊥
    no_inode ino none = omega (arith, none.1)

    -- its inode is held by nobody afterwards
    moves_holder : (ino : ℕ) (x : InodeState) → slice_get b'.inodes.items ino ≡ Some x
        → (n : InodeState) × (slice_get b.inodes.items ino ≡ Some n) × MovesHolder who (Some f) None ino n x
    moves_holder ino x is = elim (cases_eq ino f.ino) [
      | inl same ↦
          let here = subst (λ (i : ℕ). slice_get b'.inodes.items i ≡ Some x) same is in
          let ends = change.here old_state.0 x old_state.1 here in (
            old_state.0,
            subst (λ (i : ℕ). slice_get b.inodes.items i ≡ Some old_state.0) (sym same) old_state.1,
            record {
              loose = λ has. absurd (no_inode ino has);
              mine = λ has. absurd (no_inode ino has);
              freed = λ had out. ends.holder;
              kept = λ none out. absurd (none (subst (λ (xs : List ℕ). Contains xs ino) (sym held) (0, omega arith, sym same)));
            },
          )
      | inr ne ↦ (
        x,
        sym (change.others ino ne) ∙ is,
        record {
          loose = λ has. absurd (no_inode ino has);
          mine = λ has. absurd (no_inode ino has);
          freed = λ had out. absurd (ne (only_one f.ino ino (subst (λ (xs : List ℕ). Contains xs ino) held had)));
          kept = λ none out. refl;
        },
      )
    ]

    pub holders_after : AreHolders e b'
    holders_after = holders_moved who client (Some f) None b b' ended d e (ap (λ g. g.inodes) disk.event.relogs.geometry) holders moves_holder
        (λ ino has. absurd (no_inode ino has))

    pub let_go : (q : ℕ) → Holds b' q f.ino → ⊥
    let_go q holds = none_not new_state.0.holder q (change.here old_state.0 new_state.0 old_state.1 new_state.1).holder
        ((holders_after.told f.ino q new_state.0 new_state.1).1 holds)

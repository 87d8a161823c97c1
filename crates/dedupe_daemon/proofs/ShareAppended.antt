-- The item of a place that comes to share a page is prepared, and the tail moves.
use Rattle.std.proofs.Common.{◌≡◌, ◌⊎◌, inl, inr, ℕ, ◌*◌, ◌<◌, List, [], ◌∷◌, length, refl, sym, ◌∙◌, ap, subst}
use Rattle.pm_device.specs.State.{State, Agree}
use Rattle.pm_device.specs.Settled.{StoresOnly, LeavesOnly, IsSettled, KeepsFlushed, Anyone, Others}
use Rattle.pm_device.specs.Reading.{Said, Stands}
use Rattle.pm_device.specs.Commit.{IsCommitted, IsDone}
use Rattle.pm_device.proofs.OneWord.{stands-stores}
use Rattle.pm_device.proofs.Only.{stores_only-then, stores_only-weaken}
use Rattle.pm_device.proofs.Layers.{leaves_only-then, leaves_only-stores}
use Rattle.pm_device.proofs.Flushed.{keeps-then, keeps-weaken}
use Rattle.pm_layout.specs.declared.Geometry.{Geometry}
use Rattle.pm_layout.specs.Geometry.{inode_word}
use Rattle.log_entry.specs.Spelling.{spelling}
use Rattle.log_entry.specs.declared.item.Flag.TheVariants.{Complete}
use Rattle.log_entry.specs.declared.item.LogItem.TheVariants.{Write}
use Rattle.dn_model.specs.Log.{Log, IsPaged, count, tail_at, at_tail}
use Rattle.dn_model.specs.Growth.{IsGrown, Prepared}
use Rattle.dn_model.specs.Maps.{size_of}
use Rattle.dn_model.specs.Table.{Row}
use Rattle.dn_model.specs.Disk.{Disk, DiskSays, IsUsed, of_logs}
use Rattle.dn_model.specs.Valid.{IsLog}
use Rattle.dn_model.specs.Image.{StandsFor}
use Rattle.inode_log.specs.Prepare.{IsToPrepare, CanPrepare, IsPreparedBy}
use Rattle.law_write.proofs.Unread.{prepared_unsaid}
use Rattle.law_write.proofs.WriteEvent.{length-left, stands_for_read}
use Rattle.law_log_swap.proofs.Relogged.{log_here, use_same, same_geometry}
use Rattle.law_share.specs.Sharing.{MayShare, shared_log, shared_disk}
use Rattle.law_share.proofs.Shared.{shared_valid, shared_images, shared_stands}
use Rattle.dedupe_daemon.specs.Remapped.{ShareSlots, IsReadyToShare, IsShareWord, SharesOnly}

-- the slot is the item's
pub slot_spelled : (idx page size : ℕ) → (1 ∷ idx ∷ 1 ∷ page ∷ size ∷ 3 ∷ 0 ∷ 0 ∷ []) ∷ [] ≡ ShareSlots idx page size
unfolding spelling
slot_spelled idx page size = refl

module _ (d : Disk) (ino idx : ℕ) (row : Row) (fresh : List ℕ) (may : MayShare d ino idx row fresh) where
  abbrev log : Log
  log = shared_log d ino idx row.page fresh

  abbrev new : Disk
  new = shared_disk d ino idx row.page fresh

  pub share_used : IsUsed (d.inode ino).use_of
  share_used = subst IsUsed (sym may.live) tt

  abbrev grown : IsGrown (d.inode ino).log log
  grown = record { fresh = fresh; more = Write idx 1 row.page (size_of (d.inode ino).log) Complete 0 ∷ []; pages = refl; items = refl }

  pub share_paged : IsPaged d.geometry log
  share_paged =
      let is : IsLog new.geometry ino (new.inode ino).log = (shared_valid d ino idx row fresh may).logs ino
      (subst (λ (g : Geometry). ino < g.inodes) (sym (same_geometry d ino log)) may.in_table) (subst IsUsed (sym (use_same d ino log ino))
      share_used)
      in
      subst (λ (g : Geometry). IsPaged g log) (same_geometry d ino log) (subst (IsPaged new.geometry) (log_here d ino log) is.paged)

module _ (g : Geometry) (ino idx size page : ℕ) (fresh : List ℕ) (d : Disk) (row : Row) (s : State)
    (is : IsReadyToShare g ino idx size page fresh d row s) (slots : List (List ℕ)) (slots_are : slots ≡ ShareSlots idx page size) where
  abbrev its_log : Log
  its_log = shared_log d ino idx row.page fresh

  abbrev after : Disk
  after = shared_disk d ino idx row.page fresh

  tail_says : DiskSays d (inode_word ino 2) (tail_at (d.inode ino).log.pages (count (d.inode ino).log))
  tail_says = of_logs (record { ino = ino; in_table = is.may.in_table; used = share_used d ino idx row fresh is.may; says = at_tail refl refl })

  pub to_prepare : IsToPrepare g ino slots fresh (d.inode ino).log its_log s
  to_prepare = subst (λ (h : Geometry). IsToPrepare h ino slots fresh (d.inode ino).log its_log s) is.geometry (record {
    grown = grown d ino idx row fresh is.may;
    paged = (is.may.valid.logs ino is.may.in_table (share_used d ino idx row fresh is.may)).paged;
    paged' = share_paged d ino idx row fresh is.may;
    slots_are = ap (λ (p : ℕ). ShareSlots idx p (size_of (d.inode ino).log)) is.page_is ∙ ap (ShareSlots idx page) is.size_is ∙ sym slots_are;
    fresh_are = refl;
    tail = is.stands.reads (inode_word ino 2) (tail_at (d.inode ino).log.pages (count (d.inode ino).log)) tail_says;
  })

  pub can_prepare : CanPrepare g ino slots fresh s
  can_prepare = record { old = (d.inode ino).log; new = its_log; is = to_prepare }

  abbrev P : ℕ → ℕ → Type 0
  P = Prepared ino (d.inode ino).log its_log

  -- what is prepared isn't read
  unsaid : (a v : ℕ) → DiskSays d a v → Said P a → ⊥
  unsaid a v told said = prepared_unsaid d is.may.valid ino is.may.in_table is.may.live its_log (grown d ino idx row fresh is.may)
      (share_paged d ino idx row fresh is.may) is.may.fresh_unused a said.value v said.told told

  module _ (p : State) (prepared : IsPreparedBy 15 ino (d.inode ino).log its_log s p) where
    pub stands_p : Stands (DiskSays d) p
    stands_p = stands-stores (Said P) s p prepared.only (DiskSays d) unsaid is.stands

    pub tail_settled : IsSettled p (inode_word ino 2)
    tail_settled = stands_p.settled (inode_word ino 2) (tail_at (d.inode ino).log.pages (count (d.inode ino).log)) tail_says

    module _ (long : length s.now ≡ 512 * g.pages) where
      long_p : length p.now ≡ 512 * d.geometry.pages
      long_p = prepared.only.words ∙ long ∙ ap (λ (h : Geometry). 512 * h.pages) (sym is.geometry)

      module _ (tail : ℕ) (t : State) (tail_is : tail ≡ tail_at its_log.pages (count its_log)) (only : StoresOnly (λ a. a ≡ inode_word ino 2) p t)
        where
          pub images : Agree p.now p.past → Agree t.now t.past → LeavesOnly p t (IsCommitted 15 (inode_word ino 2) tail p)
              → LeavesOnly s t (λ c. StandsFor c d ⊎ StandsFor c after)
          images agree_p agree leaves = leaves_only-then s p t _
              (record {
                extends = prepared.only.extends;
                each = λ m c late left. inl
                    (stands_for_read d c is.may.valid ((leaves_only-stores (Said P) s p (DiskSays d) prepared.only unsaid is.stands).each m c late
                    left) (length-left p.past p.now m c agree_p left ∙ long_p));
              })
              (shared_images d ino idx row fresh is.may 15 p t agree (only.words ∙ long_p) stands_p prepared.ready
              (subst (λ (v : ℕ). LeavesOnly p t (IsCommitted 15 (inode_word ino 2) v p)) tail_is leaves))

          pub stands_new : IsDone 15 (inode_word ino 2) tail p t → Stands (DiskSays after) t
          stands_new done = shared_stands d ino idx row fresh is.may 15 p t long_p stands_p prepared.ready
              (subst (λ (v : ℕ). IsDone 15 (inode_word ino 2) v p t) tail_is done) only

          pub stores : KeepsFlushed (Others 15) (λ a. a ≡ inode_word ino 2) p t → SharesOnly ino idx row.page fresh d s t
          stores keeps = record {
            only = stores_only-then (IsShareWord d ino idx row.page fresh) s p t
                (stores_only-weaken (Said P) (IsShareWord d ino idx row.page fresh) s p (λ a said. inl said) prepared.only)
                (stores_only-weaken (λ a. a ≡ inode_word ino 2) (IsShareWord d ino idx row.page fresh) p t (λ a here. inr here) only);
            others = keeps-then (Others 15) (IsShareWord d ino idx row.page fresh) s p t
                (keeps-weaken Anyone (Others 15) (Said P) (IsShareWord d ino idx row.page fresh) s p (λ q other. tt) (λ a said. inl said)
                prepared.keeps)
                (keeps-weaken (Others 15) (Others 15) (λ a. a ≡ inode_word ino 2) (IsShareWord d ino idx row.page fresh) p t (λ q other. other)
                (λ a here. inr here) keeps);
          }

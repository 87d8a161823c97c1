-- The items are prepared, and the tail moves.
use Rattle.std.proofs.Common.{◌≡◌, ◌⊎◌, inl, inr, ⊎_elim, ℕ, ◌+◌, ◌*◌, ◌<◌, List, length, refl, sym, ◌∙◌, ap, subst, arith}
use Rattle.std.specs.Prelude.{Contains}
use Rattle.std.proofs.lemmas.List.Elements.{Contains-append_cases}
use Rattle.pm_device.specs.State.{State, Agree}
use Rattle.pm_device.specs.Settled.{StoresOnly, LeavesOnly, IsSettled, KeepsFlushed, Others}
use Rattle.pm_device.specs.Reading.{Said, Stands, IsReady}
use Rattle.pm_device.specs.Commit.{IsCommitted, IsDone}
use Rattle.pm_device.proofs.OneWord.{stands-stores}
use Rattle.pm_device.proofs.Only.{stores_only-then, stores_only-weaken}
use Rattle.pm_device.proofs.Layers.{leaves_only-then, leaves_only-stores}
use Rattle.pm_layout.specs.declared.Geometry.{Geometry}
use Rattle.pm_layout.specs.Geometry.{inode_word}
use Rattle.dn_model.specs.Log.{count, tail_at, at_tail}
use Rattle.dn_model.specs.Growth.{Prepared}
use Rattle.dn_model.specs.Disk.{Disk, DiskSays, IsUsed, of_logs}
use Rattle.dn_model.specs.Image.{StandsFor}
use Rattle.inode_log.specs.Prepare.{IsToPrepare, CanPrepare, IsPreparedBy}
use Rattle.law_write.specs.Writing.{Writes, IsStored, IsBlockWord}
use Rattle.law_write.proofs.Unread.{prepared_unsaid, prepared_not_in}
use Rattle.law_write.proofs.WriteEvent.{length-left, stands_for_read, stored_ready, written_images, written_stands}
use Rattle.file_commit.specs.Append.{IsReadyToAppend, IsItemWord, AppendsOnly}
use Rattle.file_commit.proofs.ItemWords.{items_kept}

module _ (g : Geometry) (who ino : ℕ) (fresh : List ℕ) (slots : List (List ℕ)) (d new : Disk) (event : Writes ino d new) (s : State)
    (is : IsReadyToAppend g who ino fresh slots d new event s) where
  used : IsUsed (d.inode ino).use_of
  used = subst IsUsed (sym event.live) tt

  pub to_prepare : IsToPrepare g ino slots fresh (d.inode ino).log (new.inode ino).log s
  to_prepare = subst (λ (h : Geometry). IsToPrepare h ino slots fresh (d.inode ino).log (new.inode ino).log s) is.geometry (record {
    grown = event.grown;
    paged = event.paged;
    paged' = is.well.paged';
    slots_are = is.slots_are;
    fresh_are = is.fresh_are;
    tail = is.stands.reads (inode_word ino 2) (tail_at (d.inode ino).log.pages (count (d.inode ino).log))
        (of_logs (record { ino = ino; in_table = event.in_table; used = used; says = at_tail refl refl }));
  })

  pub can_prepare : CanPrepare g ino slots fresh s
  can_prepare = record { old = (d.inode ino).log; new = (new.inode ino).log; is = to_prepare }

  abbrev P : ℕ → ℕ → Type 0
  P = Prepared ino (d.inode ino).log (new.inode ino).log

  -- what is prepared isn't read
  unsaid : (a v : ℕ) → DiskSays d a v → Said P a → ⊥
  unsaid a v told said = prepared_unsaid d is.well.valid ino event.in_table event.live (new.inode ino).log event.grown is.well.paged' is.well.fresh a
      said.value v said.told told

  module _ (p : State) (prepared : IsPreparedBy who ino (d.inode ino).log (new.inode ino).log s p) where
    pub stands_p : Stands (DiskSays d) p
    stands_p = stands-stores (Said P) s p prepared.only (DiskSays d) unsaid is.stands

    pub tail_settled : IsSettled p (inode_word ino 2)
    tail_settled = stands_p.settled (inode_word ino 2) (tail_at (d.inode ino).log.pages (count (d.inode ino).log))
        (of_logs (record { ino = ino; in_table = event.in_table; used = used; says = at_tail refl refl }))

    not_listed : (i : ℕ) → i < event.n → Contains (new.inode ino).log.pages (event.blocks i) → ⊥
    not_listed i lt listed = ⊎_elim
        (λ (was : Contains (d.inode ino).log.pages (event.blocks i)). (is.well.blocks i lt).free.in_no_log
        (record { ino = ino; in_table = event.in_table; used = used; listed = was }))
        (λ (taken : Contains event.grown.fresh (event.blocks i)). is.well.apart i lt taken)
        (Contains-append_cases (d.inode ino).log.pages event.grown.fresh (event.blocks i) (subst (λ (ps : List ℕ). Contains ps (event.blocks i))
        event.grown.pages listed))

    not_prepared : (i k : ℕ) → i < event.n → k < 512 → Said P (512 * event.blocks i + k) → ⊥
    not_prepared i k lt small said = prepared_not_in d.geometry ino (d.inode ino).log (new.inode ino).log event.in_table is.well.paged'
        (event.blocks i) (is.well.blocks i lt).free.data_page (not_listed i lt)
        (512 * event.blocks i + k) said.value said.told (omega arith, omega arith)

    out : (a v : ℕ) → IsBlockWord ino d new event a v → Said P a → ⊥
    out a v b said = not_prepared b.i b.k b.below b.in_page (subst (Said P) b.place said)

    module _ (long : length s.now ≡ 512 * g.pages) where
      pub long_p : length p.now ≡ 512 * d.geometry.pages
      long_p = prepared.only.words ∙ long ∙ ap (λ (h : Geometry). 512 * h.pages) (sym is.geometry)

      ready : IsReady who (IsStored ino d new event) p
      ready = record {
        within = λ a v told. ⊎_elim (λ (q : P a v). prepared.ready.within a v q)
            (λ (b : IsBlockWord ino d new event a v). omega (arith, is.ready.within a v b, prepared.only.words)) told;
        reads = λ a v told. ⊎_elim (λ (q : P a v). prepared.ready.reads a v q)
            (λ (b : IsBlockWord ino d new event a v). prepared.only.read a (out a v b) ∙ is.ready.reads a v b) told;
        flushed = λ a v told. ⊎_elim (λ (q : P a v). prepared.ready.flushed a v q)
            (λ (b : IsBlockWord ino d new event a v). prepared.keeps.flushed who a tt (out a v b) (is.ready.within a v b) (is.ready.flushed a v b))
            told;
      }

      module _ (tail : ℕ) (t : State) (tail_is : tail ≡ tail_at (new.inode ino).log.pages (count (new.inode ino).log))
          (only : StoresOnly (λ a. a ≡ inode_word ino 2) p t) where
        pub images : Agree p.now p.past → Agree t.now t.past → LeavesOnly p t (IsCommitted who (inode_word ino 2) tail p)
            → LeavesOnly s t (λ c. StandsFor c d ⊎ StandsFor c new)
        images agree_p agree leaves = leaves_only-then s p t _
            (record {
              extends = prepared.only.extends;
              each = λ m c late left. inl
                  (stands_for_read d c is.well.valid ((leaves_only-stores (Said P) s p (DiskSays d) prepared.only unsaid is.stands).each m c late
                  left) (length-left p.past p.now m c agree_p left ∙ long_p));
            })
            (written_images ino d new event is.well who p t agree (only.words ∙ long_p) stands_p (stored_ready ino d new event is.well who p ready)
            (subst (λ (v : ℕ). LeavesOnly p t (IsCommitted who (inode_word ino 2) v p)) tail_is leaves))

        pub stands_new : IsDone who (inode_word ino 2) tail p t → Stands (DiskSays new) t
        stands_new done = written_stands ino d new event is.well who p t long_p stands_p (stored_ready ino d new event is.well who p ready)
            (subst (λ (v : ℕ). IsDone who (inode_word ino 2) v p t) tail_is done) only

        pub stores : KeepsFlushed (Others who) (λ a. a ≡ inode_word ino 2) p t → AppendsOnly who ino d new s t
        stores keeps = record {
          only = stores_only-then (IsItemWord ino d new) s p t
              (stores_only-weaken (Said P) (IsItemWord ino d new) s p (λ a said. inl said) prepared.only)
              (stores_only-weaken (λ a. a ≡ inode_word ino 2) (IsItemWord ino d new) p t (λ a here. inr here) only);
          others = items_kept who ino d new s p t prepared keeps;
        }

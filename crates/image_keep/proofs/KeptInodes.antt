-- Inodes are kept one after another.
use Rattle.std.proofs.Common.{◌≡◌, ◌≢◌, inl, inr, ℕ, ◌+◌, ◌*◌, ◌<◌, Bool, List, [], ◌∷◌, length, map, refl, sym, ◌∙◌, ap, subst, add-one, arith}
use Rattle.std.specs.Prelude.{Result, Ok, Err, OnOk, Option, Some, None, is_some, slice_get, if◌then◌else◌}
use Rattle.std.specs.Option.{option_map}
use Rattle.std.proofs.lemmas.List.{length-append}
use Rattle.pm_layout.specs.declared.Geometry.{Geometry}
use Rattle.file_content.specs.Content.{kept}
use Rattle.dn_model.specs.Log.{Placed, placed}
use Rattle.dn_model.specs.Maps.{Mapping}
use Rattle.dn_model.specs.Disk.{Disk, Use, Free, Live, Dying, IsUsed, state_number, maps}
use Rattle.dn_model.specs.Valid.{IsLog}
use Rattle.law_write.proofs.Counting.{total-same}
use Rattle.log_walk.specs.Items.{seen}
use Rattle.log_walk.specs.Laws.{ReadsAs}
use Rattle.fact_scan.proofs.Pushed.{get-push_cases}
use Rattle.image_logs.specs.declared.logs.UsedInode.{UsedInode}
use Rattle.image_logs.specs.Logs.{IsSaid, IsFoundAt, IsUsedAt}
use Rattle.image_logs.proofs.Hits.{total-next, total-none}
use Rattle.image_logs.proofs.Steps.{state_word, cut_word, used_from}
use Rattle.dn_volume.specs.declared.volume.InodeState.{InodeState}
use Rattle.dn_volume.specs.declared.volume.InodeUse.TheVariants as used
use Rattle.dn_volume.specs.Inodes.{IsInodeOf, as_use}
use Rattle.dn_volume.specs.Reclaims.{dying_units, mapped_places, units_by_use}
use Rattle.image_keep.specs.declared.keep.Kept.{Kept}
use Rattle.image_keep.specs.Waiting.{IsOpenItem, AreWorksOf, WaitFor}
use Rattle.image_keep.specs.Keeping.{MayKeep, KeepsOne, KeepsLive, KeepsDying, KeepsInode, AreKeptTo, place_hit, places_in}
use Rattle.image_keep.proofs.Queued.{works_same, open_same, waits_none, waits_next}

pub may_keep : (g : Geometry) (c : List ℕ) (ino : ℕ) (found : Option UsedInode) → IsFoundAt g c ino found → MayKeep found
may_keep g c ino None is = tt
may_keep g c ino (Some used) is = (is.log.indexed, is.log.small)

free_use : (u : Use) → state_number u ≡ 0 → u ≡ Free
free_use Free e = refl
free_use Live e = absurd (omega (arith, e))
free_use (Dying cut) e = absurd (omega (arith, e))

live_use : (u : Use) → state_number u ≡ 1 → u ≡ Live
live_use Free e = absurd (omega (arith, e))
live_use Live e = refl
live_use (Dying cut) e = absurd (omega (arith, e))

dying_use : (u : Use) (cut : ℕ) → state_number u ≢ 0 → state_number u ≢ 1 → ((k : ℕ) → u ≡ Dying k → cut ≡ k) → u ≡ Dying cut
dying_use Free cut some other is = absurd (some refl)
dying_use Live cut some other is = absurd (other refl)
dying_use (Dying k) cut some other is = ap Dying (sym (is k refl))

some_kept : (o : Option Mapping) → is_some (option_map kept o) ≡ is_some o
some_kept None = refl
some_kept (Some m) = refl

-- the mapped places of an inode, by what is kept of it
places_are : (d : Disk) (ino : ℕ) (node : InodeState) → IsInodeOf d ino node → mapped_places d ino ≡ places_in node.map.map
unfolding mapped_places
places_are d ino node is = total-same (place_hit node.map.map) (λ idx. if is_some (maps d ino idx) then 1 else 0) 4096
    (λ idx lt. ap (λ (b : Bool). if b then 1 else 0) (sym (some_kept (maps d ino idx)) ∙ ap is_some (sym (is.places idx))))

module _ (ino : ℕ) (old new : Kept) where
  pub kept_free : (node : InodeState) → KeepsOne old new node [] 0 → node.used ≡ used.Free
      → ((d : Disk) (i : ℕ) → (d.inode i).use_of ≡ as_use node.used → IsInodeOf d i node) → KeepsInode ino None old new
  kept_free node keeps free is = record {
    node = node;
    more = [];
    units = 0;
    keeps = keeps;
    of_disk = λ g c d said lt found.
        let unused : (d.inode ino).use_of ≡ Free = free_use (d.inode ino).use_of (sym (state_word g c d said.geometry said.inodes ino lt) ∙ found) in
        record {
          node_is = is d ino (unused ∙ sym (ap as_use free));
          waits = subst (λ (u : Use). WaitFor ino u (d.inode ino).log []) (sym unused) refl;
          units_are = sym (ap (λ (u : Use). units_by_use u (mapped_places d ino)) unused);
        };
  }

  module _ (one : UsedInode) where
    module _ (g : Geometry) (c : List ℕ) (d : Disk) (said : IsSaid g c d) (lt : ino < g.inodes) (found : IsUsedAt g c ino one) where
      is_used : IsUsed (d.inode ino).use_of
      is_used = used_from g c d said.geometry said.inodes ino lt found.in_use

      in_disk : ino < d.geometry.inodes
      in_disk = omega (arith, lt, ap (λ (h : Geometry). h.inodes) said.geometry)

      reads : ReadsAs g c ino (d.inode ino).log
      reads = record {
        reads = λ a v told. said.logs a v (record { ino = ino; in_table = in_disk; used = is_used; says = told });
        valid = subst (λ (h : Geometry). IsLog h ino (d.inode ino).log) said.geometry (said.valid ino in_disk is_used);
      }

      state_is : one.slot.state ≡ state_number (d.inode ino).use_of
      state_is = found.state ∙ state_word g c d said.geometry said.inodes ino lt

    pub kept_live : one.slot.state ≡ 1 → KeepsLive ino one.log.index one.log.pages one.log.items.items old new → KeepsInode ino (Some one) old new
    kept_live live keeps = record {
      node = keeps.node;
      more = keeps.more;
      units = 0;
      keeps = keeps.keeps;
      of_disk = λ g c d said lt found.
          let is_live : (d.inode ino).use_of ≡ Live = live_use (d.inode ino).use_of (sym (state_is g c d said lt found) ∙ live) in
          let index = found.log.index (d.inode ino).log (reads g c d said lt found) in
          let works : AreWorksOf (IsOpenItem (d.inode ino).log) ino (placed (d.inode ino).log) keeps.more =
          subst (λ (ps : List Placed). AreWorksOf (IsOpenItem (d.inode ino).log) ino ps keeps.more)
          (found.log.items (d.inode ino).log (reads g c d said lt found))
          (works_same _ (IsOpenItem (d.inode ino).log) (open_same (d.inode ino).log one.log.index index) ino (map seen one.log.items.items) keeps.more
          keeps.works) in
          record {
            node_is = keeps.node_is d is_live index (found.log.pages (d.inode ino).log (reads g c d said lt found));
            waits = subst (λ (u : Use). WaitFor ino u (d.inode ino).log keeps.more) (sym is_live) works;
            units_are = sym (ap (λ (u : Use). units_by_use u (mapped_places d ino)) is_live);
          };
    }

    pub kept_dying : one.slot.state ≢ 1 → KeepsDying one.slot.cut one.log.index one.log.pages old new → KeepsInode ino (Some one) old new
    kept_dying other keeps = record {
      node = keeps.node;
      more = [];
      units = keeps.units;
      keeps = keeps.keeps;
      of_disk = λ g c d said lt found.
          let state = state_is g c d said lt found in
          let dying : (d.inode ino).use_of ≡ Dying one.slot.cut = dying_use (d.inode ino).use_of one.slot.cut
          (λ none. found.in_use (sym found.state ∙ state ∙ none)) (λ live. other (state ∙ live))
          (λ k e. found.cut ∙ cut_word g c d said.geometry said.inodes ino lt k e) in
          let index = found.log.index (d.inode ino).log (reads g c d said lt found) in
          let node = keeps.node_is d ino dying index (found.log.pages (d.inode ino).log (reads g c d said lt found)) in
          record {
            node_is = node;
            waits = subst (λ (u : Use). WaitFor ino u (d.inode ino).log []) (sym dying) refl;
            units_are = keeps.units_are ∙ ap (λ (n : ℕ). 1 + 4 * n) (sym (places_are d ino keeps.node node))
                ∙ sym (ap (λ (u : Use). units_by_use u (mapped_places d ino)) dying);
          };
    }

pub kept_none : (g : Geometry) (c : List ℕ) (none : Kept) → none.inodes.items ≡ [] → none.work.items ≡ [] → none.waiting ≡ 0 → AreKeptTo g c 0 none
kept_none g c none inodes work waiting = record {
  all = ap length inodes;
  unheld = λ ino n at. absurd (nothing ino n at);
  round = λ ino n at. absurd (nothing ino n at);
  few = omega (arith, waiting);
  of_disk = λ d said. record {
    each = λ ino n at. absurd (nothing ino n at);
    queue = rw work (waits_none d.inode);
    waiting = waiting ∙ sym (total-none (dying_units d));
  };
}
  where
    nothing : (ino : ℕ) (n : InodeState) → slice_get none.inodes.items ino ≡ Some n → ⊥
    nothing ino n at = empty ino (ap (λ (xs : List InodeState). slice_get xs ino) (sym inodes) ∙ at)
      where
        empty : (k : ℕ) → slice_get [] k ≡ Some n → ⊥
        empty k e = cc

module _ (g : Geometry) (c : List ℕ) (k : ℕ) (old new : Kept) (found : Option UsedInode) (so_far : AreKeptTo g c k old)
    (keeps : KeepsInode k found old new)
    (lt : k < g.inodes) (is : IsFoundAt g c k found) where
  -- a node of after is one of before, or the new one
  by_node : (P : ℕ → InodeState → Type 0) → ((ino : ℕ) (n : InodeState) → slice_get old.inodes.items ino ≡ Some n → P ino n) → P k keeps.node
      → (ino : ℕ) (n : InodeState) → slice_get new.inodes.items ino ≡ Some n → P ino n
  by_node P before last ino n at =
      elim (get-push_cases old.inodes.items keeps.node ino n (ap (λ (xs : List InodeState). slice_get xs ino) (sym keeps.keeps.inodes) ∙ at)) [
        | inl was ↦ before ino n was.1
        | inr one ↦ subst (P ino) one.1 (subst (λ (i : ℕ). P i keeps.node) (sym (one.0 ∙ so_far.all)) last)
      ]

  pub kept_next : AreKeptTo g c (k + 1) new
  kept_next = record {
    all = ap length keeps.keeps.inodes ∙ length-append old.inodes.items (keeps.node ∷ []) ∙ ap (λ (n : ℕ). n + 1) so_far.all;
    unheld = by_node (λ ino n. n.holder ≡ None) so_far.unheld keeps.keeps.unheld;
    round = by_node (λ ino n. n.round ≡ 0) so_far.round keeps.keeps.round;
    few = omega (arith, keeps.keeps.waiting, keeps.keeps.few, so_far.few);
    of_disk = λ d said.
        let before = so_far.of_disk d said in
        let one = keeps.of_disk g c d said lt is in
        record {
          each = by_node (IsInodeOf d) before.each one.node_is;
          queue = rw (keeps.keeps.work, add-one) (waits_next d.inode k old.work.items keeps.more before.queue one.waits);
          waiting = omega (arith, keeps.keeps.waiting, before.waiting, one.units_are, total-next (dying_units d) k);
        };
  }

pub on_ok : {X E : Type 0} (r : Result X E) (P Q : Type 0) → (P → Q) → OnOk r P → OnOk r Q
on_ok (Ok x) P Q f p = f p
on_ok (Err e) P Q f p = tt

-- Two disks that the same words tell have the same parts.
use Rattle.std.proofs.Common.{◌≡◌, ℕ, zero, suc, ◌+◌, ◌<◌, ◌≤◌, List, ◌++◌, refl, sym, ◌∙◌, ap, subst, arith}
use Rattle.std.specs.Prelude.{slice_index, slice_get, Some}
use Rattle.pm_device.specs.Reading.{Reads}
use Rattle.pm_layout.specs.declared.Geometry.{Geometry}
use Rattle.pm_layout.specs.Geometry.{directs, inode_word, pointer_word}
use Rattle.dn_model.specs.Log.{Log}
use Rattle.dn_model.specs.Maps.{mapping}
use Rattle.dn_model.specs.Table.{Row, ChainSays, rows_from}
use Rattle.dn_model.specs.Disk.{
  Disk,
  Use,
  Free,
  Live,
  Dying,
  IsUsed,
  state_number,
  maps,
  maps_by_use,
  IsMapped,
  rows,
  HeadSays,
  at_pages,
  at_inodes,
  InodesSay,
  at_state,
  at_cut,
  LogsSay,
  ChainsSay,
  PointersSay,
}
use Rattle.dn_model.specs.Valid.{IsLog, IsRow}
use Rattle.dn_model.proofs.OneLog.{pages_one, items_one}
use Rattle.law_unique.specs.SameDisk.{HasSameLogs}
use Rattle.law_unique.specs.Images.{HasOneLog}
use Rattle.law_unique.proofs.SameChain.{chain_one}

pub log_one : HasOneLog
log_one g ino c x y is_x is_y rx ry =
    let pages : x.pages ≡ y.pages = pages_one g ino c x y is_x is_y rx ry in
    let items : x.items ≡ y.items = items_one g ino c x y is_x is_y rx ry in
    (λ i. record { pages = pages i; items = items i })

use_one : (u v : Use) → state_number u ≡ state_number v → ((a b : ℕ) → u ≡ Dying a → v ≡ Dying b → a ≡ b) → u ≡ v
use_one Free Free e cut = refl
use_one Free Live e cut = absurd (omega (arith, e))
use_one Free (Dying b) e cut = absurd (omega (arith, e))
use_one Live Free e cut = absurd (omega (arith, e))
use_one Live Live e cut = refl
use_one Live (Dying b) e cut = absurd (omega (arith, e))
use_one (Dying a) Free e cut = absurd (omega (arith, e))
use_one (Dying a) Live e cut = absurd (omega (arith, e))
use_one (Dying a) (Dying b) e cut = ap Dying (cut a b refl refl)

module _ (c : List ℕ) (d e : Disk) where
  pub geometry_one : Reads (HeadSays d) c → Reads (HeadSays e) c → d.geometry ≡ e.geometry
  geometry_one rd re =
      let pages : d.geometry.pages ≡ e.geometry.pages = sym (rd 2 d.geometry.pages (at_pages refl refl)) ∙ re 2 e.geometry.pages (at_pages refl refl)
      in
      let inodes : d.geometry.inodes ≡ e.geometry.inodes = sym (rd 3 d.geometry.inodes (at_inodes refl refl)) ∙ re 3 e.geometry.inodes
      (at_inodes refl refl) in
      (λ i. record { pages = pages i; inodes = inodes i })

  module _ (geometry : d.geometry ≡ e.geometry) where
    in_table : (ino : ℕ) → ino < d.geometry.inodes → ino < e.geometry.inodes
    in_table ino lt = subst (λ (g : Geometry). ino < g.inodes) geometry lt

    pub uses_one : Reads (InodesSay d) c → Reads (InodesSay e) c → (ino : ℕ) → ino < d.geometry.inodes → (d.inode ino).use_of ≡ (e.inode ino).use_of
    uses_one rd re ino lt = use_one (d.inode ino).use_of (e.inode ino).use_of
        (sym (rd (inode_word ino 0) (state_number (d.inode ino).use_of) (at_state ino lt refl refl)) ∙ re (inode_word ino 0)
        (state_number (e.inode ino).use_of) (at_state ino (in_table ino lt) refl refl))
        (λ a b ua ub. sym (rd (inode_word ino 3) a (at_cut ino a lt ua refl refl)) ∙ re (inode_word ino 3) b
        (at_cut ino b (in_table ino lt) ub refl refl))

    module _ (uses : (ino : ℕ) → ino < d.geometry.inodes → (d.inode ino).use_of ≡ (e.inode ino).use_of)
        (logs_d : (ino : ℕ) → ino < d.geometry.inodes → IsUsed (d.inode ino).use_of → IsLog d.geometry ino (d.inode ino).log)
        (logs_e : (ino : ℕ) → ino < e.geometry.inodes → IsUsed (e.inode ino).use_of → IsLog e.geometry ino (e.inode ino).log)
        (rd : Reads (LogsSay d) c) (re : Reads (LogsSay e) c) where
      pub same_logs : HasSameLogs d e
      same_logs = record {
        geometry = geometry;
        uses = uses;
        logs = λ ino lt used.
            let used' : IsUsed (e.inode ino).use_of = subst IsUsed (uses ino lt) used in
            let lt' = in_table ino lt in
            log_one d.geometry ino c (d.inode ino).log (e.inode ino).log (logs_d ino lt used)
            (subst (λ (g : Geometry). IsLog g ino (e.inode ino).log) (sym geometry) (logs_e ino lt' used'))
            (λ a v says. rd a v (record { ino = ino; in_table = lt; used = used; says = says }))
            (λ a v says. re a v (record { ino = ino; in_table = lt'; used = used'; says = says }));
      }

    module _ (table_d : (prefix k : ℕ) (row : Row) → prefix < directs d.geometry → slice_get (d.chain prefix) k ≡ Some row
        → IsRow d.geometry prefix k row)
        (table_e : (prefix k : ℕ) (row : Row) → prefix < directs e.geometry → slice_get (e.chain prefix) k ≡ Some row → IsRow e.geometry prefix k row)
        (rd : Reads (ChainsSay d) c) (re : Reads (ChainsSay e) c) where
      pub chains_one : (prefix : ℕ) → prefix < directs d.geometry → d.chain prefix ≡ e.chain prefix
      chains_one prefix direct =
          let direct' : prefix < directs e.geometry = subst (λ (g : Geometry). prefix < directs g) geometry direct in
          chain_one d.geometry prefix c (d.chain prefix) (e.chain prefix) direct (λ k row at. table_d prefix k row direct at)
          (λ k row at. subst (λ (g : Geometry). IsRow g prefix k row) (sym geometry) (table_e prefix k row direct' at))
          (λ a v says. rd a v (record { prefix = prefix; direct = direct; says = says }))
          (λ a v says. re a v (record {
            prefix = prefix;
            direct = direct';
            says = subst (λ (g : Geometry). ChainSays g prefix (e.chain prefix) a v)
                geometry says;
          }))

    pub pointers_one : Reads (PointersSay d) c → Reads (PointersSay e) c → (page : ℕ) → page < d.geometry.pages → d.pointer page ≡ e.pointer page
    pointers_one rd re page lt =
        let lt' : page < e.geometry.pages = subst (λ (g : Geometry). page < g.pages) geometry lt in
        sym (rd (pointer_word d.geometry page) (d.pointer page) (record { page = page; in_image = lt; place = refl; value = refl }))
        ∙ ap (λ (g : Geometry). slice_index c (pointer_word g page)) geometry
        ∙ re (pointer_word e.geometry page) (e.pointer page) (record { page = page; in_image = lt'; place = refl; value = refl })

pub rows_from-same : (f g : ℕ → List Row) (p n : ℕ) → ((q : ℕ) → p ≤ q → q < p + n → f q ≡ g q) → rows_from f p n ≡ rows_from g p n
rows_from-same f g p zero same = refl
rows_from-same f g p (suc n) same =
    let here : f p ≡ g p = same p (omega arith) (omega arith) in
    let rest : rows_from f (p + 1) n ≡ rows_from g (p + 1) n = rows_from-same f g (p + 1) n (λ q le lt. same q (omega arith) (omega arith)) in
    (λ i. here i ++ rest i)

pub rows-same : (d e : Disk) → d.geometry ≡ e.geometry → ((prefix : ℕ) → prefix < directs d.geometry → d.chain prefix ≡ e.chain prefix)
    → rows d ≡ rows e
unfolding rows
rows-same d e geometry chains =
    rows_from-same d.chain e.chain 0 (directs d.geometry) (λ q le lt. chains q (omega (arith, lt))) ∙ ap
    (λ (g : Geometry). rows_from e.chain 0 (directs g)) geometry

maps_by_use-same : (u v : Use) (x y : Log) (idx : ℕ) → u ≡ v → (IsUsed u → x ≡ y) → maps_by_use u x idx ≡ maps_by_use v y idx
maps_by_use-same u v x y idx e same = by_use u same ∙ ap (λ (w : Use). maps_by_use w y idx) e
  where
    by_use : (w : Use) → (IsUsed w → x ≡ y) → maps_by_use w x idx ≡ maps_by_use w y idx
    by_use Free f = refl
    by_use Live f = ap (λ (log : Log). mapping log idx) (f tt)
    by_use (Dying c) f = ap (λ (log : Log). maps_by_use (Dying c) log idx) (f tt)

-- The same logs map the same places to the same pages.
module _ (d e : Disk) (same : HasSameLogs d e) where
  pub back : HasSameLogs e d
  back =
      let here : (ino : ℕ) → ino < e.geometry.inodes → ino < d.geometry.inodes = λ ino lt. subst (λ (g : Geometry). ino < g.inodes)
      (sym same.geometry) lt in
      record {
        geometry = sym same.geometry;
        uses = λ ino lt. sym (same.uses ino (here ino lt));
        logs = λ ino lt used. sym (same.logs ino (here ino lt) (subst IsUsed (sym (same.uses ino (here ino lt))) used));
      }

  pub maps-same : (ino idx : ℕ) → ino < d.geometry.inodes → maps d ino idx ≡ maps e ino idx
  unfolding maps
  maps-same ino idx lt = maps_by_use-same (d.inode ino).use_of (e.inode ino).use_of (d.inode ino).log (e.inode ino).log idx (same.uses ino lt)
      (same.logs ino lt)

  pub mapped-same : (page : ℕ) → IsMapped d page → IsMapped e page
  mapped-same page m =
      let to = m.maps_to in
      record {
        ino = m.ino;
        idx = m.idx;
        maps_to = record {
          in_table = subst (λ (g : Geometry). m.ino < g.inodes) same.geometry to.in_table;
          in_file = to.in_file;
          by = to.by;
          is = sym (maps-same m.ino m.idx to.in_table) ∙ to.is;
          block = to.block;
        };
      }

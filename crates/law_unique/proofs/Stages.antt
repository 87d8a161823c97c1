-- The stages of an image that is asked for its first fault.
use Rattle.std.proofs.Common.{
  ◌≡◌,
  ◌≢◌,
  ◌⊎◌,
  inl,
  inr,
  ℕ,
  ◌+◌,
  ◌*◌,
  ◌<◌,
  ◌≤◌,
  List,
  [],
  ◌∷◌,
  ◌++◌,
  get_or,
  refl,
  sym,
  ◌∙◌,
  ap,
  subst,
  arith,
  get_or-set_other,
}
use Rattle.std.specs.Prelude.{slice_index, Option, IsSome, IsNone, All, Contains}
use Rattle.std.proofs.lemmas.Bool.{cases_lt}
use Rattle.std.proofs.lemmas.List.{get_or_default}
use Rattle.std.proofs.lemmas.List.Elements.{All-head, All-tail}
use Rattle.pm_device.specs.Reading.{Reads}
use Rattle.pm_layout.specs.declared.Geometry.{Geometry}
use Rattle.pm_layout.specs.Geometry.{IsAccepted, slots, inode_word, gate_word}
use Rattle.dn_model.specs.Rolled.{rolled, put_back, IsGate}
use Rattle.dn_model.proofs.RollBack.{put_back_other}
use Rattle.dn_model.specs.LogFault.{LogFault}
use Rattle.dn_model.specs.Log.{Log}
use Rattle.dn_model.specs.Table.{Row, row_of}
use Rattle.dn_model.specs.Disk.{
  Disk,
  Use,
  Free,
  Live,
  Dying,
  IsUsed,
  state_number,
  rows,
  HeadSays,
  at_magic,
  at_version,
  at_pages,
  at_inodes,
  at_state,
  at_cut,
  PointersSay,
  of_head,
  of_inodes,
  of_logs,
  of_chains,
  of_pointers,
}
use Rattle.dn_model.specs.Counts.{mappings, IsFree, IsNear}
use Rattle.dn_model.specs.Valid.{IsCut, IsLinked}
use Rattle.dn_model.specs.Image.{StandsFor}
use Rattle.dn_model.specs.Faults.{
  IsLeast,
  geometry_of,
  HasGeometry,
  IsBadInode,
  HasInodes,
  HasLogs,
  HasLinks,
  HasTable,
  HasPointers,
  IsDouble,
  HasFree,
  TableFault,
}
use Rattle.law_unique.specs.SameDisk.{HasSameLogs}
use Rattle.law_unique.proofs.SameParts.{uses_one, same_logs, chains_one, pointers_one, rows-same, mapped-same}
use Rattle.law_unique.proofs.SameMeaning.{mappings-same, names-same, log_page-same, free_count-same, linked-same}
use Rattle.law_unique.proofs.LogFaults.{log_fault_one, log_fault_none}
use Rattle.law_unique.proofs.TableStops.{table_fault_one, table_fault_none}

pub least_one : (n m : ℕ) (P Q : ℕ → Type 0) (a b : ℕ) → n ≡ m → IsLeast n P a → IsLeast m Q b → ((i : ℕ) → i < n → P i → Q i)
    → ((i : ℕ) → i < n → Q i → P i) → a ≡ b
least_one n m P Q a b same x y to from = elim (cases_lt a b) [
  | inl lt ↦ absurd (y.least a lt (to a x.below x.has))
  | inr ge ↦ elim (cases_lt b a) [
    | inl lt ↦ absurd (x.least b lt (from b (omega (arith, same, y.below)) y.has))
    | inr le ↦ omega (arith, ge, le)
  ]
]

module _ (c : List ℕ) where
  abbrev r : List ℕ
  r = rolled c

  module _ (d e : Disk) where
    pub geometry-same : HasInodes c d → HasInodes c e → d.geometry ≡ e.geometry
    geometry-same x y = x.geometry ∙ sym y.geometry

    pub uses-same : (x : HasInodes c d) (y : HasInodes c e) → (ino : ℕ) → ino < d.geometry.inodes → (d.inode ino).use_of ≡ (e.inode ino).use_of
    uses-same x y = uses_one r d e (geometry-same x y) x.reads y.reads

    pub logs-same : HasLogs c d → HasLogs c e → HasSameLogs d e
    logs-same x y = same_logs r d e (geometry-same x.inodes y.inodes) (uses-same x.inodes y.inodes) x.logs y.logs x.reads y.reads

    pub all_rows-same : HasTable c d → HasTable c e → rows d ≡ rows e
    all_rows-same x y =
        let geometry = geometry-same x.links.logs.inodes y.links.logs.inodes in
        rows-same d e geometry (chains_one r d e geometry x.table y.table x.reads y.reads)

    pub pointers-same : (x : HasTable c d) (y : HasTable c e) → Reads (PointersSay d) r → Reads (PointersSay e) r → (page : ℕ)
        → page < d.geometry.pages → d.pointer page ≡ e.pointer page
    pointers-same x y = pointers_one r d e (geometry-same x.links.logs.inodes y.links.logs.inodes)

  -- the root is in the table, and used
  root_in : (d : Disk) → HasInodes c d → 0 < d.geometry.inodes
  root_in d x = subst (λ (g : Geometry). 0 < g.inodes) (sym x.geometry) (omega (arith, x.gate.geometry.accepted.inodes))

  root_use : (d : Disk) → HasInodes c d → IsUsed (d.inode 0).use_of
  root_use d x = subst IsUsed (sym x.root) tt

  -- Inodes.
  use_two : (u : Use) → state_number u ≡ 2 → (cut : ℕ) × (u ≡ Dying cut)
  use_two Free e = absurd (omega (arith, e))
  use_two Live e = absurd (omega (arith, e))
  use_two (Dying cut) e = (cut, refl)

  state-le : (u : Use) → state_number u ≤ 2
  state-le Free = omega arith
  state-le Live = omega arith
  state-le (Dying cut) = omega arith

  pub no_bad_inode : (d : Disk) → HasInodes c d → (ino : ℕ) → ino < slice_index c 3 → IsBadInode r ino → ⊥
  no_bad_inode d x ino lt bad = by_cause bad
    where
      in_table : ino < d.geometry.inodes
      in_table = subst (λ (g : Geometry). ino < g.inodes) (sym x.geometry) lt

      state : slice_index r (inode_word ino 0) ≡ state_number (d.inode ino).use_of
      state = x.reads (inode_word ino 0) (state_number (d.inode ino).use_of) (at_state ino in_table refl refl)

      root_state : slice_index r (inode_word 0 0) ≡ 1
      root_state = x.reads (inode_word 0 0) (state_number (d.inode 0).use_of) (at_state 0 (root_in d x) refl refl) ∙ ap state_number x.root

      by_cause : IsBadInode r ino → ⊥
      by_cause (inl high) = omega (arith, high, state, state-le (d.inode ino).use_of)
      by_cause (inr (inl root)) = root.1 root_state
      by_cause (inr (inr cut)) =
          let dying = use_two (d.inode ino).use_of (sym state ∙ cut.0) in
          let le : dying.0 ≤ 4096 = subst IsCut dying.1 (x.cuts ino in_table) in
          let is = x.reads (inode_word ino 3) dying.0 (at_cut ino dying.0 in_table dying.1 refl refl) in
          omega (arith, cut.1, le, is)

  -- Logs.
  pub no_bad_log : (d e : Disk) (ino place : ℕ) → HasInodes c d → HasLogs c e → ino < d.geometry.inodes → IsUsed (d.inode ino).use_of
      → LogFault d.geometry r ino place → ⊥
  no_bad_log d e ino place x y lt used fault =
      let same = geometry-same d e x y.inodes in
      let lt' : ino < e.geometry.inodes = subst (λ (g : Geometry). ino < g.inodes) same lt in
      let used' : IsUsed (e.inode ino).use_of = subst IsUsed (uses-same d e x y.inodes ino lt) used in
      log_fault_none e.geometry r ino (e.inode ino).log (y.logs ino lt' used')
      (λ a v says. y.reads a v (record { ino = ino; in_table = lt'; used = used'; says = says })) place
      (subst (λ (g : Geometry). LogFault g r ino place) same fault)

  abbrev BadLogAt : Disk → ℕ → Type 0
  BadLogAt d i = IsUsed (d.inode i).use_of × ((n : ℕ) × LogFault d.geometry r i n)

  bad_log-to : (d e : Disk) → HasInodes c d → HasInodes c e → (i : ℕ) → i < d.geometry.inodes → BadLogAt d i → BadLogAt e i
  bad_log-to d e x y i lt bad =
      (subst IsUsed (uses-same d e x y i lt) bad.0, (bad.1.0, subst (λ (g : Geometry). LogFault g r i bad.1.0) (geometry-same d e x y) bad.1.1))

  pub bad_log_one : (d e : Disk) (i j : ℕ) → HasInodes c d → HasInodes c e → IsLeast d.geometry.inodes (BadLogAt d) i
      → IsLeast e.geometry.inodes (BadLogAt e) j → i ≡ j
  bad_log_one d e i j x y a b =
      let same = ap (λ (g : Geometry). g.inodes) (geometry-same d e x y) in
      least_one d.geometry.inodes e.geometry.inodes (BadLogAt d) (BadLogAt e) i j same a b (bad_log-to d e x y)
      (λ k lt bad. bad_log-to e d y x k (omega (arith, lt, same)) bad)

  pub place_one : (d e : Disk) (i j p q : ℕ) → HasInodes c d → HasInodes c e → i ≡ j → LogFault d.geometry r i p → LogFault e.geometry r j q → p ≡ q
  place_one d e i j p q x y same a b = log_fault_one d.geometry r i p q a (subst (λ (k : ℕ). LogFault d.geometry r k q) (sym same)
      (subst (λ (g : Geometry). LogFault g r j q) (sym (geometry-same d e x y)) b))

  -- Names.
  linked-to : (d e : Disk) → HasLogs c d → HasLogs c e → (i : ℕ) → i < d.geometry.inodes → IsLinked d i (d.inode i).use_of
      → IsLinked e i (e.inode i).use_of
  linked-to d e x y i lt linked =
      let same = logs-same d e x y in
      subst (IsLinked e i) (same.uses i lt) (linked-same d e (names-same d e same (root_in d x.inodes) (root_use d x.inodes)) i (d.inode i).use_of
      linked)

  abbrev BadLinkAt : Disk → ℕ → Type 0
  BadLinkAt d i = (1 ≤ i) × (IsLinked d i (d.inode i).use_of → ⊥)

  bad_link-to : (d e : Disk) → HasLogs c d → HasLogs c e → (i : ℕ) → i < d.geometry.inodes → BadLinkAt d i → BadLinkAt e i
  bad_link-to d e x y i lt bad =
      (bad.0, λ linked. bad.1 (linked-to e d y x i (subst (λ (g : Geometry). i < g.inodes) (geometry-same d e x.inodes y.inodes) lt) linked))

  pub bad_link_one : (d e : Disk) (i j : ℕ) → HasLogs c d → HasLogs c e → IsLeast d.geometry.inodes (BadLinkAt d) i
      → IsLeast e.geometry.inodes (BadLinkAt e) j → i ≡ j
  bad_link_one d e i j x y a b =
      let same = ap (λ (g : Geometry). g.inodes) (geometry-same d e x.inodes y.inodes) in
      least_one d.geometry.inodes e.geometry.inodes (BadLinkAt d) (BadLinkAt e) i j same a b (bad_link-to d e x y)
      (λ k lt bad. bad_link-to e d y x k (omega (arith, lt, same)) bad)

  pub no_bad_link : (d e : Disk) (i : ℕ) → HasLogs c d → HasLinks c e → i < d.geometry.inodes → BadLinkAt d i → ⊥
  no_bad_link d e i x y lt bad =
      let lt' : i < e.geometry.inodes = subst (λ (g : Geometry). i < g.inodes) (geometry-same d e x.inodes y.logs.inodes) lt in
      bad.1 (linked-to e d y.logs x i lt' (y.links i bad.0 lt'))

  -- The table.
  pub bad_table_one : (d e : Disk) (s t : ℕ) → HasLinks c d → HasLinks c e → TableFault d.geometry r s → TableFault e.geometry r t → s ≡ t
  bad_table_one d e s t x y a b = table_fault_one d.geometry r s t a
      (subst (λ (g : Geometry). TableFault g r t) (sym (geometry-same d e x.logs.inodes y.logs.inodes)) b)

  pub no_bad_table : (d e : Disk) (s : ℕ) → HasLinks c d → HasTable c e → TableFault d.geometry r s → ⊥
  unfolding rows
  no_bad_table d e s x y fault =
      table_fault_none e.geometry r e.chain (λ q lt k row at. y.table q k row lt at)
      (λ q lt a v says. y.reads a v (record { prefix = q; direct = lt; says = says })) y.rows_apart s
      (subst (λ (g : Geometry). TableFault g r s) (geometry-same d e x.logs.inodes y.links.logs.inodes) fault)

  -- Pointers.
  abbrev BadPointerAt : Disk → ℕ → Type 0
  BadPointerAt d p = (slots d.geometry < d.pointer p) ⊎ ((row : Row) × Contains (rows d) row × (row.page ≡ p) × (d.pointer p ≢ row.slot + 1))

  bad_pointer-to : (d e : Disk) → d.geometry ≡ e.geometry → rows d ≡ rows e → (p : ℕ) → d.pointer p ≡ e.pointer p → BadPointerAt d p
      → BadPointerAt e p
  bad_pointer-to d e geometry same p at (inl high) = inl (subst (λ (g : Geometry). slots g < e.pointer p) geometry
      (subst (λ (v : ℕ). slots d.geometry < v) at high))
  bad_pointer-to d e geometry same p at (inr bad) = inr (
    bad.0,
    subst (λ (rs : List Row). Contains rs bad.0) same bad.1,
    bad.2,
    λ leads. bad.3 (at ∙ leads),
  )

  pub bad_pointer_one : (d e : Disk) (i j : ℕ) → HasTable c d → HasTable c e → Reads (PointersSay d) r → Reads (PointersSay e) r
      → IsLeast d.geometry.pages (BadPointerAt d) i → IsLeast e.geometry.pages (BadPointerAt e) j → i ≡ j
  bad_pointer_one d e i j x y rd re a b =
      let geometry = geometry-same d e x.links.logs.inodes y.links.logs.inodes in
      let same = all_rows-same d e x y in
      let pointer = pointers-same d e x y rd re in
      least_one d.geometry.pages e.geometry.pages (BadPointerAt d) (BadPointerAt e) i j (ap (λ (g : Geometry). g.pages) geometry) a b
      (λ p lt bad. bad_pointer-to d e geometry same p (pointer p lt) bad) (λ p lt bad. bad_pointer-to e d (sym geometry) (sym same) p
      (sym (pointer p lt)) bad)

  pub no_bad_pointer : (d e : Disk) (p : ℕ) → HasTable c d → Reads (PointersSay d) r → HasPointers c e → p < d.geometry.pages → BadPointerAt d p → ⊥
  no_bad_pointer d e p x rd y lt bad =
      let geometry = geometry-same d e x.links.logs.inodes y.table.links.logs.inodes in
      by_cause (subst (λ (g : Geometry). p < g.pages) geometry lt) (bad_pointer-to d e geometry (all_rows-same d e x y.table) p
      (pointers-same d e x y.table rd y.reads p lt) bad)
    where
      by_cause : p < e.geometry.pages → BadPointerAt e p → ⊥
      by_cause lt' (inl high) = omega (arith, high, y.pointers p lt')
      by_cause lt' (inr row) =
          row.3 (subst (λ (q : ℕ). e.pointer q ≡ row.0.slot + 1) row.2 (subst (λ (z : Row). e.pointer z.page ≡ z.slot + 1) row.1.2
          (y.leads row.1.0 row.0 row.1.1)))

  -- Pages that are used twice.
  double-to : (d e : Disk) → HasSameLogs d e → rows d ≡ rows e → (p : ℕ) → IsDouble d p → IsDouble e p
  double-to d e same same_rows p (inl two) =
      let lt : (k : ℕ) → k < d.geometry.inodes → k < e.geometry.inodes = λ k below. subst (λ (g : Geometry). k < g.inodes) same.geometry below in
      inl (
        two.0,
        two.1,
        two.2,
        lt two.0 two.3,
        lt two.1 two.4,
        subst IsUsed (same.uses two.0 two.3) two.5,
        subst IsUsed (same.uses two.1 two.4) two.6,
        subst (λ (log : Log). Contains log.pages p) (same.logs two.0 two.3 two.5) two.7,
        subst (λ (log : Log). Contains log.pages p) (same.logs two.1 two.4 two.6) two.8,
      )
  double-to d e same same_rows p (inr (inl both)) = inr (inl (log_page-same d e same p both.0, mapped-same d e same p both.1))
  double-to d e same same_rows p (inr (inr (inl both))) = inr
      (inr (inl (log_page-same d e same p both.0, subst (λ (rs : List Row). IsSome (row_of rs p)) same_rows both.1)))
  double-to d e same same_rows p (inr (inr (inr both))) =
      inr (inr (inr (subst (λ (rs : List Row). IsNone (row_of rs p)) same_rows both.0, subst (λ (n : ℕ). 1 < n) (mappings-same d e same p) both.1)))

  pub double-between : (d e : Disk) → HasPointers c d → HasPointers c e → (p : ℕ) → IsDouble d p → IsDouble e p
  double-between d e x y = double-to d e (logs-same d e x.table.links.logs y.table.links.logs) (all_rows-same d e x.table y.table)

  pub double_one : (d e : Disk) (i j : ℕ) → HasPointers c d → HasPointers c e → IsLeast d.geometry.pages (IsDouble d) i
      → IsLeast e.geometry.pages (IsDouble e) j → i ≡ j
  double_one d e i j x y a b =
      least_one d.geometry.pages e.geometry.pages (IsDouble d) (IsDouble e) i j
      (ap (λ (g : Geometry). g.pages) (geometry-same d e x.table.links.logs.inodes y.table.links.logs.inodes)) a b
      (λ p lt bad. double-between d e x y p bad) (λ p lt bad. double-between e d y x p bad)

  -- Counts.
  pub near-same : (d e : Disk) → HasPointers c d → HasPointers c e → (row : Row) → IsNear d row → IsNear e row
  near-same d e x y row near =
      let same : mappings d row.page ≡ mappings e row.page = mappings-same d e (logs-same d e x.table.links.logs y.table.links.logs) row.page in
      subst (λ (n : ℕ). (n ≤ row.rfc + row.uc) × (row.rfc ≤ n + row.uc)) same near

  first_bad : (P : Row → Type 0) (xs ys : List Row) (x y : Row) (rest rest' : List Row) → xs ++ x ∷ rest ≡ ys ++ y ∷ rest' → All P xs → (P x → ⊥)
      → All P ys → (P y → ⊥) → x ≡ y
  first_bad P [] [] x y rest rest' e ax bx ay by = cc
  first_bad P [] (b ∷ ys) x y rest rest' e ax bx ay by = let same : x ≡ b = cc in absurd (bx (subst P (sym same) (All-head P b ys ay)))
  first_bad P (a ∷ xs) [] x y rest rest' e ax bx ay by = let same : a ≡ y = cc in absurd (by (subst P same (All-head P a xs ax)))
  first_bad P (a ∷ xs) (b ∷ ys) x y rest rest' e ax bx ay by =
      let after : xs ++ x ∷ rest ≡ ys ++ y ∷ rest' = cc in first_bad P xs ys x y rest rest' after (All-tail P a xs ax) bx (All-tail P b ys ay) by

  pub bad_count_one : (d e : Disk) (xs ys : List Row) (x y : Row) (rest rest' : List Row) → HasPointers c d → HasPointers c e
      → rows d ≡ xs ++ x ∷ rest → rows e ≡ ys ++ y ∷ rest'
      → All (IsNear d) xs → (IsNear d x → ⊥) → All (IsNear e) ys → (IsNear e y → ⊥) → x ≡ y
  bad_count_one d e xs ys x y rest rest' hd he ed ee ax bx ay by =
      first_bad (IsNear d) xs ys x y rest rest' (sym ed ∙ all_rows-same d e hd.table he.table ∙ ee) ax bx
      (λ k row lt. near-same e d he hd (get_or ys k row) (ay k row lt)) (λ near. by (near-same d e hd he y near))

  split_all : (P : Row → Type 0) (xs : List Row) (x : Row) (rest : List Row) → All P (xs ++ x ∷ rest) → P x
  split_all P [] x rest all = All-head P x rest all
  split_all P (a ∷ xs) x rest all = split_all P xs x rest (All-tail P a (xs ++ x ∷ rest) all)

  pub no_bad_count : (d e : Disk) (xs : List Row) (x : Row) (rest : List Row) → HasPointers c d → HasPointers c e → rows d ≡ xs ++ x ∷ rest
      → (IsNear d x → ⊥) → All (IsNear e) (rows e) → ⊥
  no_bad_count d e xs x rest hd he ed bad near =
      bad (near-same e d he hd x (split_all (IsNear e) xs x rest (subst (All (IsNear e)) (sym (all_rows-same d e hd.table he.table) ∙ ed) near)))

  -- Free pages.
  pub free-to : (d e : Disk) → HasPointers c d → HasPointers c e → (n : ℕ) → HasFree d n → HasFree e n
  free-to d e x y n free = free_count-same d e (logs-same d e x.table.links.logs y.table.links.logs) n free

  pub not_crowded : (d : Disk) (n p q : ℕ) → HasFree d n → n < 2 → p ≢ q → IsFree d p → IsFree d q → ⊥
  not_crowded d n p q free few ne fp fq =
      let a = (free.1 p).1 fp in let b = (free.1 q).1 fq in
      let same : a.0 ≡ b.0 = omega (arith, a.1, b.1, free.3, few) in
      ne (sym a.2 ∙ get_or_default free.0 a.0 p 0 a.1 ∙ ap (slice_index free.0) same ∙ sym (get_or_default free.0 b.0 q 0 b.1) ∙ b.2)

-- What an image that stands for a state has passed.
pub rolled_low : (c : List ℕ) (n a : ℕ) → IsGate n c → a < 512 → slice_index (rolled c) a ≡ slice_index c a
unfolding rolled
rolled_low c n a gate low =
    get_or-set_other (put_back c (slice_index c gate_word) c) gate_word a 0 0 (λ e. omega (arith, e, low))
    ∙ put_back_other c c (slice_index c gate_word) a (λ i lt e. omega (arith, e, low, (gate.addresses i lt).is))

module _ (c : List ℕ) (d : Disk) (s : StandsFor c d) where
  word : (a v : ℕ) → HeadSays d a v → a < 512 → slice_index c a ≡ v
  word a v says low = sym (rolled_low c d.geometry.inodes a s.gate low) ∙ s.reads a v (of_head says)

  pages_are : slice_index c 2 ≡ d.geometry.pages
  pages_are = word 2 d.geometry.pages (at_pages refl refl) (omega arith)

  inodes_are : slice_index c 3 ≡ d.geometry.inodes
  inodes_are = word 3 d.geometry.inodes (at_inodes refl refl) (omega arith)

  geometry_is : d.geometry ≡ geometry_of c
  geometry_is =
      let p = sym pages_are in let q = sym inodes_are in (λ i. record { pages = p i; inodes = q i })

  stands_geometry : HasGeometry c
  stands_geometry = record {
    image = record { long = omega (arith, s.size, s.valid.accepted.pages); magic = word 0 0x313041564F4E4544 (at_magic refl refl) (omega arith) };
    version = word 1 1 (at_version refl refl) (omega arith);
    accepted = subst IsAccepted geometry_is s.valid.accepted;
    size = s.size ∙ ap (λ (n : ℕ). 512 * n) (sym pages_are);
  }

  stands_inodes : HasInodes c d
  stands_inodes = record {
    gate = record { geometry = stands_geometry; gate = subst (λ (n : ℕ). IsGate n c) (sym inodes_are) s.gate };
    geometry = geometry_is;
    reads = λ a v says. s.reads a v (of_inodes says);
    root = s.valid.root;
    cuts = s.valid.cuts;
  }

  pub stands_pointers : HasPointers c d
  stands_pointers = record {
    table = record {
      links = record {
        logs = record { inodes = stands_inodes; reads = λ a v says. s.reads a v (of_logs says); logs = s.valid.logs };
        links = s.valid.links;
      };
      reads = λ a v says. s.reads a v (of_chains says);
      table = s.valid.table;
      rows_apart = s.valid.rows_apart;
    };
    reads = λ a v says. s.reads a v (of_pointers says);
    pointers = s.valid.pointers;
    leads = s.valid.leads;
  }

  pub stands_single : (p : ℕ) → IsDouble d p → ⊥
  stands_single p (inl two) = two.2 (s.valid.single.one_log two.0 two.1 p two.3 two.4 two.5 two.6 two.7 two.8)
  stands_single p (inr (inl both)) = s.valid.single.log_unmapped p both.0 both.1
  stands_single p (inr (inr (inl both))) = none_some (row_of (rows d) p) (s.valid.single.log_no_row p both.0) both.1
    where
      none_some : (o : Option Row) → IsNone o → IsSome o → ⊥
      none_some o none some = cc
  stands_single p (inr (inr (inr both))) = omega (arith, both.1, s.valid.single.unshared p both.0)

-- Slots are stored past a tail, one after the other.
use Rattle.std.proofs.Common.{
  ◌≡◌,
  ◌≢◌,
  ◌⊎◌,
  inl,
  inr,
  ⊎_elim,
  ℕ,
  zero,
  suc,
  ◌+◌,
  ◌-◌,
  ◌*◌,
  ◌/◌,
  ◌%◌,
  ◌<◌,
  ◌≤◌,
  List,
  [],
  ◌∷◌,
  ◌++◌,
  length,
  get_or,
  refl,
  sym,
  ◌∙◌,
  ap,
  subst,
  arith,
  length-append,
}
use Rattle.std.specs.Prelude.{slice_index, All}
use Rattle.std.proofs.lemmas.Bool.{cases_lt}
use Rattle.std.proofs.lemmas.List.{get_or-append-add, get_or_default}
use Rattle.std.proofs.lemmas.List.Concat.{flat_map-append}
use Rattle.pm_device.specs.State.{State, Agree}
use Rattle.pm_device.specs.Settled.{StoresOnly, IsFlushed, KeepsFlushed, Anyone, FlushesAll}
use Rattle.pm_device.specs.Words.{IsIn}
use Rattle.pm_device.specs.Reading.{Said, IsReady}
use Rattle.pm_device.specs.Lines.{StoresRun}
use Rattle.pm_device.proofs.AllFlushed.{flushes_words}
use Rattle.pm_device.proofs.Flushed.{keeps-none, keeps-then, keeps-weaken}
use Rattle.pm_device.proofs.Only.{stores_only-then, stores_only-weaken, stores_only-none}
use Rattle.pm_layout.specs.declared.Geometry.{Geometry}
use Rattle.pm_layout.specs.Geometry.{InData, IsAccepted, inode_word}
use Rattle.log_entry.specs.Spelling.{spelling, spelled}
use Rattle.dn_model.specs.Log.{Log, count, tail_at, footer_word, spelled_word}
use Rattle.dn_model.specs.Growth.{Prepared, new_head, new_footer, new_slot}
use Rattle.dn_model.proofs.Append.{count-grown, page-grown, log_word_in_data, same_page, same_slot, no_footer, same_index}
use Rattle.dn_model.proofs.Regions.{inode_not_data, inode_word_low}
use Rattle.inode_log.specs.Prepare.{IsToPrepare, IsPreparedBy, PreparedBelow, below_head, below_footer, below_slot, IsPreparedTo, HasRoomAt, IsFull}

-- what is ready stays so while other words are stored, and a run that is stored is ready too
module _ (who at : ℕ) (values : List ℕ) (F G : ℕ → ℕ → Type 0) (s t : State) (ready : IsReady who F s) (stores : StoresRun who at values s t)
    (inside : at + length values ≤ length s.now)
    (apart : (a v : ℕ) → F a v → IsIn at (length values) a → ⊥)
    (cases : (a v : ℕ) → G a v → F a v ⊎ ((k : ℕ) × (k < length values) × (a ≡ at + k) × (v ≡ slice_index values k))) where
  abbrev New : ℕ → ℕ → Type 0
  New a v = (k : ℕ) × (k < length values) × (a ≡ at + k) × (v ≡ slice_index values k)

  pub ready-more : IsReady who G t
  ready-more = record {
    within = λ a v told. ⊎_elim (λ (old : F a v). omega (arith, ready.within a v old, stores.only.words))
        (λ (new : New a v). omega (arith, new.1, new.2, inside, stores.only.words)) (cases a v told);
    reads = λ a v told. ⊎_elim (λ (old : F a v). stores.only.read a (apart a v old) ∙ ready.reads a v old)
        (λ (new : New a v). ap (slice_index t.now) new.2 ∙ stores.reads new.0 new.1 ∙ sym new.3) (cases a v told);
    flushed = λ a v told. ⊎_elim (λ (old : F a v). stores.keeps.flushed who a tt (apart a v old) (ready.within a v old) (ready.flushed a v old))
        (λ (new : New a v). subst (λ (b : ℕ). IsFlushed who t b) (sym new.2) (stores.flushed new.0 new.1)) (cases a v told);
  }

-- the tail's place
full_at_zero : (p n : ℕ) → (p * 64 + n % 63 + 1 ≡ 0) ⊎ ((p * 64 + n % 63 + 1) % 64 ≡ 63) → suc n % 63 ≡ 0
full_at_zero p n full = ⊎_elim (λ (e : p * 64 + n % 63 + 1 ≡ 0). absurd (omega arith)) (λ (e : (p * 64 + n % 63 + 1) % 64 ≡ 63). omega arith) full

pub full_at : (pages : List ℕ) (m : ℕ) → IsFull (tail_at pages m) → m % 63 ≡ 0
full_at pages zero full = refl
full_at pages (suc n) full = full_at_zero (slice_index pages (n / 63)) n full

pub line_at : (pages : List ℕ) (m : ℕ) → (IsFull (tail_at pages m) → ⊥) → (0 < m % 63) × (tail_at pages m ≡ slice_index pages (m / 63) * 64 + m % 63)
line_at pages zero not_full = absurd (not_full (inl refl))
line_at pages (suc n) not_full =
    let below : n % 63 ≢ 62 = λ e. not_full (inr (omega (arith, e))) in
    let same : n / 63 ≡ suc n / 63 = omega arith in (
      omega arith,
      ap (λ (i : ℕ). slice_index pages i * 64 + n % 63 + 1) same ∙ (let next : n % 63 + 1 ≡ suc n % 63 = omega arith in
          omega (arith, next)),
    )

pub tail_within : (g : Geometry) (pages : List ℕ) (m : ℕ) → 64 ≤ g.pages → ((n : ℕ) → m ≡ suc n → slice_index pages (n / 63) < g.pages)
    → tail_at pages m < 64 * g.pages
tail_within g pages zero some inside = omega arith
tail_within g pages (suc n) some inside = omega (arith, inside n refl)

module _ (g : Geometry) (ino : ℕ) (slots : List (List ℕ)) (fresh : List ℕ) (old new : Log) (s0 : State)
    (is : IsToPrepare g ino slots fresh old new s0) (accepted : IsAccepted g) (in_table : ino < g.inodes) where
  pub count_new : count new ≡ count old + length slots
  count_new = count-grown old new is.grown ∙ ap (λ (ss : List (List ℕ)). count old + length ss) is.slots_are

  more_pages : length new.pages ≡ length old.pages + length fresh
  more_pages = ap length is.grown.pages ∙ length-append old.pages is.grown.fresh ∙ ap (λ (ps : List ℕ). length old.pages + length ps) is.fresh_are

  pub page-fresh : (u : ℕ) → slice_index new.pages (length old.pages + u) ≡ slice_index fresh u
  page-fresh u = ap (λ (ps : List ℕ). slice_index ps (length old.pages + u)) is.grown.pages ∙ get_or-append-add old.pages is.grown.fresh u 0 ∙ ap
      (λ (ps : List ℕ). slice_index ps u) is.fresh_are

  pub fresh_within : All (λ page. page < g.pages) fresh
  fresh_within u d lt =
      let there = is.paged'.in_data (length old.pages + u) (omega (arith, more_pages)) in
      omega (arith, there.high, page-fresh u, get_or_default fresh u d 0 lt)

  in_data_at : (m : ℕ) → m < count new → InData g (slice_index new.pages (m / 63))
  in_data_at m lt = log_word_in_data g new m is.paged' lt

  pub tail_below : (m : ℕ) → m ≤ count new → tail_at new.pages m < 64 * g.pages
  tail_below m le = tail_within g new.pages m accepted.pages (λ n e. (in_data_at n (omega arith)).high)

  pub line_below : (m : ℕ) → m < count new → slice_index new.pages (m / 63) * 64 + m % 63 < 64 * g.pages
  line_below m lt = omega (arith, (in_data_at m lt).high)

  pub enough_fresh : (m used : ℕ) → m < count new → m % 63 ≡ 0 → used + length old.pages ≡ (m + 62) / 63 → used < length fresh
  enough_fresh m used lt zero_place used_are = omega (arith, is.paged'.fits, more_pages)

  -- what is prepared at last is what is prepared below the new count
  pub all_below : (a v : ℕ) → Prepared ino old new a v → PreparedBelow ino old new (count new) (count new) a v
  all_below a v (new_head none some place value) = below_head none some place value
  all_below a v (new_footer k late lt place value) = below_footer k late (omega (arith, is.paged'.fits)) place value
  all_below a v (new_slot k j late lt word place value) = below_slot k j late lt word place value

  -- at first nothing is
  none_below : (a v : ℕ) → PreparedBelow ino old new (count old) (count old) a v → ⊥
  none_below a v (below_head none some place value) = omega arith
  none_below a v (below_footer k late lt place value) = omega (arith, is.paged.fits)
  none_below a v (below_slot k j late lt word place value) = omega arith

  -- a slot is spelled as it was given
  spelled_slot : (m j : ℕ) (slot : List ℕ) → count old ≤ m → slot ≡ get_or slots (m - count old) [] → spelled_word new m j ≡ slice_index slot j
  unfolding spelled_word count
  spelled_slot m j slot more is_slot =
      ap (λ (ss : List (List ℕ)). slice_index (get_or ss m []) j) (ap spelled is.grown.items ∙ flat_map-append spelling old.items is.grown.more)
      ∙ ap (λ (i : ℕ). slice_index (get_or (spelled old.items ++ spelled is.grown.more) i []) j)
      (let z : m ≡ length (spelled old.items) + (m - length (spelled old.items)) = omega (arith, more) in z)
      ∙ ap (λ (ss : List ℕ). slice_index ss j) (get_or-append-add (spelled old.items) (spelled is.grown.more) (m - length (spelled old.items)) [])
      ∙ ap (λ (ss : List (List ℕ)). slice_index (get_or ss (m - length (spelled old.items)) []) j) is.slots_are
      ∙ ap (λ (ss : List ℕ). slice_index ss j) (sym is_slot)

  module _ (who : ℕ) (s t : State) where
    -- a run of what is prepared drops nothing that was flushed elsewhere
    keeps_wider : (at : ℕ) (values : List ℕ) (s t : State) → KeepsFlushed Anyone (Said (Prepared ino old new)) s0 s → StoresRun who at values s t
        → ((a : ℕ) → IsIn at (length values) a → Said (Prepared ino old new) a) → KeepsFlushed Anyone (Said (Prepared ino old new)) s0 t
    keeps_wider at values s t so_far stores wider = keeps-then Anyone (Said (Prepared ino old new)) s0 s t so_far
        (keeps-weaken Anyone Anyone (IsIn at (length values)) (Said (Prepared ino old new)) s t (λ q any. any) wider stores.keeps)

    -- the page of the next slot is the first one
    pub linked_first : (m tail used page : ℕ) → m ≡ 0 → m < count new → page ≡ slice_index fresh used → used + length old.pages ≡ (m + 62) / 63
        → length s.now ≡ 512 * g.pages
        → IsPreparedTo who ino old new s0 m tail used s → StoresRun who (inode_word ino 1) (page ∷ []) s t → HasRoomAt who ino old new s0 m
        (64 * page) (used + 1) t
    linked_first m tail used page first lt from used_are long so_far stores =
        let here : page ≡ slice_index new.pages 0 = from ∙ sym (page-fresh used) ∙ ap (slice_index new.pages)
        (let z : length old.pages + used ≡ 0 = omega arith in z) in
        let none : count old ≡ 0 = omega (arith, so_far.more) in
        let wide : StoresOnly (Said (Prepared ino old new)) s t = stores_only-weaken (IsIn (inode_word ino 1) 1) (Said (Prepared ino old new)) s t
        (λ a inside. record { value = slice_index new.pages 0; told = new_head none (omega arith) (omega (arith, inside.0, inside.1)) refl })
        stores.only in
        record {
          more = so_far.more;
          line_is = omega (arith, here, first, ap (λ (i : ℕ). slice_index new.pages (i / 63)) first);
          used_are = omega arith;
          only = stores_only-then (Said (Prepared ino old new)) s0 s t so_far.only wide;
          ready = ready-more who (inode_word ino 1) (page ∷ []) (PreparedBelow ino old new m m) (PreparedBelow ino old new (m + 1) m) s t so_far.ready
              stores
              (omega (arith, inode_word_low g ino 1 in_table (omega arith), accepted.room)) (λ a v told inside. nothing a v told) cases;
          keeps = keeps_wider (inode_word ino 1) (page ∷ []) s t so_far.keeps stores
              (λ a inside. record { value = slice_index new.pages 0; told = new_head none (omega arith) (omega (arith, inside.0, inside.1)) refl });
        }
      where
        nothing : (a v : ℕ) → PreparedBelow ino old new m m a v → ⊥
        nothing a v (below_head none some place value) = omega arith
        nothing a v (below_footer k late lt place value) = omega arith
        nothing a v (below_slot k j late lt word place value) = omega arith

        cases : (a v : ℕ) → PreparedBelow ino old new (m + 1) m a v → PreparedBelow ino old new m m a v
            ⊎ ((k : ℕ) × (k < 1) × (a ≡ inode_word ino 1 + k) × (v ≡ slice_index (page ∷ []) k))
        cases a v (below_head none some place value) =
            inr (
              0,
              omega arith,
              omega arith,
              value ∙ sym (from ∙ sym (page-fresh used) ∙ ap (slice_index new.pages)
                  (let z : length old.pages + used ≡ 0 = omega arith in z)),
            )
        cases a v (below_footer k late lt place value) = absurd (omega arith)
        cases a v (below_slot k j late lt word place value) = absurd (omega arith)

    -- or it comes after another
    pub linked_later : (m n tail used page : ℕ) → m ≡ suc n → m < count new → m % 63 ≡ 0 → page ≡ slice_index fresh used
        → used + length old.pages ≡ (m + 62) / 63 → length s.now ≡ 512 * g.pages
        → IsPreparedTo who ino old new s0 m tail used s → StoresRun who (footer_word new.pages (n / 63)) (page ∷ []) s t
        → HasRoomAt who ino old new s0 m (64 * page) (used + 1) t
    linked_later m n tail used page after lt zero_place from used_are long so_far stores =
        let wide : StoresOnly (Said (Prepared ino old new)) s t = stores_only-weaken (IsIn (footer_word new.pages (n / 63)) 1)
        (Said (Prepared ino old new)) s t (λ a inside. told a inside) stores.only in
        record {
          more = so_far.more;
          line_is = omega (arith, here, ap (slice_index new.pages) index);
          used_are = omega arith;
          only = stores_only-then (Said (Prepared ino old new)) s0 s t so_far.only wide;
          ready = ready-more who (footer_word new.pages (n / 63)) (page ∷ []) (PreparedBelow ino old new m m) (PreparedBelow ino old new (m + 1) m) s
              t so_far.ready stores
              (omega (arith, (in_data_at n (omega arith)).high)) apart cases;
          keeps = keeps_wider (footer_word new.pages (n / 63)) (page ∷ []) s t so_far.keeps stores told;
        }
      where
        index : n / 63 + 1 ≡ m / 63
        index = omega arith

        here : page ≡ slice_index new.pages (n / 63 + 1)
        here = from ∙ sym (page-fresh used) ∙ ap (slice_index new.pages) (let z : length old.pages + used ≡ n / 63 + 1 = omega arith in z)

        told : (a : ℕ) → IsIn (footer_word new.pages (n / 63)) 1 a → Said (Prepared ino old new) a
        told a inside = record {
          value = slice_index new.pages (n / 63 + 1);
          told = new_footer (n / 63) (omega (arith, so_far.more, is.paged.fits))
              (omega (arith, is.paged'.fits)) (omega (arith, inside.0, inside.1)) refl;
        }

        apart : (a v : ℕ) → PreparedBelow ino old new m m a v → IsIn (footer_word new.pages (n / 63)) 1 a → ⊥
        apart a v (below_head none some place value) inside =
            inode_not_data g ino 1 (slice_index new.pages (n / 63)) 504 in_table (omega arith) (in_data_at n (omega arith))
            (omega (arith, place, inside.0, inside.1))
        apart a v (below_footer k late below place value) inside =
            let e : k ≡ n / 63 = is.paged'.apart k (n / 63) (omega (arith, is.paged'.fits)) (omega (arith, is.paged'.fits))
            (same_page (slice_index new.pages k) (slice_index new.pages (n / 63)) 504 504 (omega arith) (omega arith)
            (omega (arith, place, inside.0, inside.1))) in omega arith
        apart a v (below_slot k j late below word place value) inside =
            no_footer (slice_index new.pages (n / 63)) (slice_index new.pages (k / 63)) (k % 63) j (omega arith) word
            (omega (arith, place, inside.0, inside.1))

        cases : (a v : ℕ) → PreparedBelow ino old new (m + 1) m a v → PreparedBelow ino old new m m a v
            ⊎ ((k : ℕ) × (k < 1) × (a ≡ footer_word new.pages (n / 63) + k) × (v ≡ slice_index (page ∷ []) k))
        cases a v (below_head none some place value) = inl (below_head none (omega arith) place value)
        cases a v (below_footer k late below place value) = elim (cases_lt (63 * (k + 1)) m) [
          | inl low ↦ inl (below_footer k late low place value)
          | inr high ↦
              let e : k ≡ n / 63 = omega arith in
              inr (
                0,
                omega arith,
                place ∙ ap (λ (i : ℕ). 512 * slice_index new.pages i + 504) e ∙ (let z : (x : ℕ) → x ≡ x + 0 = λ x. omega arith in
                    z _),
                value ∙ ap (λ (i : ℕ). slice_index new.pages (i + 1)) e ∙ sym here,
              )
        ]
        cases a v (below_slot k j late below word place value) = inl (below_slot k j late below word place value)

    pub linked : (m tail used page : ℕ) → m < count new → IsFull tail → page ≡ slice_index fresh used → length s.now ≡ 512 * g.pages
        → IsPreparedTo who ino old new s0 m tail used s
        → (tail ≡ 0 → StoresRun who (inode_word ino 1) (page ∷ []) s t) → (0 < tail → StoresRun who (8 * tail) (page ∷ []) s t)
        → HasRoomAt who ino old new s0 m (64 * page) (used + 1) t
    linked zero tail used page lt full from long so_far first later = linked_first zero tail used page refl lt from so_far.used_are long so_far
        (first so_far.tail_is)
    linked (suc n) tail used page lt full from long so_far first later =
        let place : suc n % 63 ≡ 0 = full_at new.pages (suc n) (subst IsFull so_far.tail_is full) in
        let at : 8 * tail ≡ footer_word new.pages (n / 63) = omega (arith, so_far.tail_is, place) in
        linked_later (suc n) n tail used page refl lt place from so_far.used_are long so_far (subst (λ (a : ℕ). StoresRun who a (page ∷ []) s t) at
        (later (omega (arith, so_far.tail_is))))

    -- no page is needed
    pub had_room : (m tail used line : ℕ) → 0 < m % 63 → line ≡ slice_index new.pages (m / 63) * 64 + m % 63 → IsPreparedTo who ino old new s0 m tail
        used s → HasRoomAt who ino old new s0 m line used s
    had_room m tail used line some line_is so_far = record {
      more = so_far.more;
      line_is = line_is;
      used_are = omega (arith, so_far.used_are);
      only = so_far.only;
      ready = record {
        within = λ a v told. so_far.ready.within a v (same a v told);
        reads = λ a v told. so_far.ready.reads a v (same a v told);
        flushed = λ a v told. so_far.ready.flushed a v (same a v told);
      };
      keeps = so_far.keeps;
    }
      where
        same : (a v : ℕ) → PreparedBelow ino old new (m + 1) m a v → PreparedBelow ino old new m m a v
        same a v (below_head none some' place value) = below_head none (omega arith) place value
        same a v (below_footer k late below place value) = below_footer k late (omega arith) place value
        same a v (below_slot k j late below word place value) = below_slot k j late below word place value

    -- the slot is stored
    pub slot_stored : (m used line : ℕ) (slot : List ℕ) → m < count new → length slot ≡ 8 → slot ≡ get_or slots (m - count old) []
        → length s.now ≡ 512 * g.pages
        → HasRoomAt who ino old new s0 m line used s → StoresRun who (8 * line) slot s t → IsPreparedTo who ino old new s0 (m + 1) (line + 1) used t
    slot_stored m used line slot lt whole is_slot long so_far stores = record {
      more = omega (arith, so_far.more);
      tail_is = ap (λ (n : ℕ). n + 1) so_far.line_is ∙ ap (tail_at new.pages) (let z : suc m ≡ m + 1 = omega arith in z);
      used_are = omega (arith, so_far.used_are);
      only = stores_only-then (Said (Prepared ino old new)) s0 s t so_far.only (stores_only-weaken (IsIn (8 * line) (length slot))
          (Said (Prepared ino old new)) s t told stores.only);
      ready = ready-more who (8 * line) slot (PreparedBelow ino old new (m + 1) m) (PreparedBelow ino old new (m + 1) (m + 1)) s t so_far.ready stores
          (omega (arith, whole, so_far.line_is, (in_data_at m lt).high)) apart cases;
      keeps = keeps_wider (8 * line) slot s t so_far.keeps stores told;
    }
      where
        told : (a : ℕ) → IsIn (8 * line) (length slot) a → Said (Prepared ino old new) a
        told a inside = record {
          value = spelled_word new m (a - 8 * line);
          told = new_slot m (a - 8 * line) so_far.more lt
              (omega (arith, inside.0, inside.1, whole)) (omega (arith, inside.0, so_far.line_is)) refl;
        }

        apart : (a v : ℕ) → PreparedBelow ino old new (m + 1) m a v → IsIn (8 * line) (length slot) a → ⊥
        apart a v (below_head none some place value) inside =
            inode_not_data g ino 1 (slice_index new.pages (m / 63)) (a - 512 * slice_index new.pages (m / 63)) in_table (omega arith)
            (in_data_at m lt) (omega (arith, place, inside.0, so_far.line_is))
        apart a v (below_footer k late below place value) inside =
            no_footer (slice_index new.pages k) (slice_index new.pages (m / 63)) (m % 63) (a - 8 * line) (omega arith)
            (omega (arith, inside.0, inside.1, whole)) (omega (arith, place, inside.0, so_far.line_is))
        apart a v (below_slot k j late below word place value) inside =
            let both = same_slot (slice_index new.pages (k / 63)) (slice_index new.pages (m / 63)) (k % 63) (m % 63) j (a - 8 * line) (omega arith)
            (omega arith) word (omega (arith, inside.0, inside.1, whole)) (omega (arith, place, inside.0, so_far.line_is)) in
            let page : k / 63 ≡ m / 63 = is.paged'.apart (k / 63) (m / 63) (omega (arith, is.paged'.fits)) (omega (arith, is.paged'.fits)) both.0 in
            let e : k ≡ m = same_index k m page both.1 in omega arith

        cases : (a v : ℕ) → PreparedBelow ino old new (m + 1) (m + 1) a v → PreparedBelow ino old new (m + 1) m a v
            ⊎ ((k : ℕ) × (k < length slot) × (a ≡ 8 * line + k) × (v ≡ slice_index slot k))
        cases a v (below_head none some place value) = inl (below_head none some place value)
        cases a v (below_footer k late below place value) = inl (below_footer k late below place value)
        cases a v (below_slot k j late below word place value) = elim (cases_lt k m) [
          | inl low ↦ inl (below_slot k j late low word place value)
          | inr high ↦
              let e : k ≡ m = omega arith in
              inr (
                j,
                omega (arith, whole),
                omega (
                  arith,
                  place,
                  so_far.line_is,
                  ap (λ (i : ℕ). slice_index new.pages (i / 63)) e,
                  ap (λ (i : ℕ). i % 63) e,
                ),
                value ∙ ap (λ (i : ℕ). spelled_word new i j) e ∙ spelled_slot m j slot so_far.more is_slot,
              )
        ]

  pub nothing_prepared : (who : ℕ) → Agree s0.now s0.past → IsPreparedTo who ino old new s0 (count old) (slice_index s0.now (inode_word ino 2)) 0 s0
  nothing_prepared who agree = record {
    more = omega arith;
    tail_is = is.tail ∙ tail_old (count old) refl;
    used_are = omega (arith, is.paged.fits);
    only = stores_only-none (Said (Prepared ino old new)) s0 agree;
    ready = record {
      within = λ a v told. absurd (none_below a v told);
      reads = λ a v told. absurd (none_below a v told);
      flushed = λ a v told. absurd
          (none_below a v told);
    };
    keeps = keeps-none Anyone (Said (Prepared ino old new)) s0;
  }
    where
      tail_old : (m : ℕ) → count old ≡ m → tail_at old.pages m ≡ tail_at new.pages m
      tail_old zero e = refl
      tail_old (suc n) e = ap (λ (p : ℕ). p * 64 + n % 63 + 1) (sym (page-grown old new is.grown (n / 63) (omega (arith, is.paged.fits))))

  pub all_prepared : (who m tail used : ℕ) (t : State) → m ≡ count new → IsPreparedTo who ino old new s0 m tail used t → IsPreparedBy who ino old new
      s0 t
  all_prepared who m tail used t all so_far = record {
    only = so_far.only;
    ready = record {
      within = λ a v told. so_far.ready.within a v (there a v told);
      reads = λ a v told. so_far.ready.reads a v (there a v told);
      flushed = λ a v told. so_far.ready.flushed a v (there a v told);
    };
    keeps = so_far.keeps;
  }
    where
      there : (a v : ℕ) → Prepared ino old new a v → PreparedBelow ino old new m m a v
      there a v told = subst (λ (n : ℕ). PreparedBelow ino old new n n a v) (sym all) (all_below a v told)

-- all that is prepared is flushed
pub prepared_flushes : (who ino : ℕ) (old new : Log) (s t : State) → IsPreparedBy who ino old new s t → FlushesAll who s t
prepared_flushes who ino old new s t prepared =
    flushes_words (Said (Prepared ino old new)) who s t prepared.keeps (λ a lt said. prepared.ready.flushed a said.value said.told)

-- fresh pages suffice
module _ (g : Geometry) (ino : ℕ) (slots : List (List ℕ)) (fresh : List ℕ) (old new : Log) (s0 : State)
    (is : IsToPrepare g ino slots fresh old new s0) where
  pub used_within : (m used : ℕ) → m ≤ count new → used + length old.pages ≡ (m + 62) / 63 → used ≤ length fresh
  used_within m used le used_are =
      let more : length new.pages ≡ length old.pages + length fresh = ap length is.grown.pages ∙ length-append old.pages is.grown.fresh ∙ ap
      (λ (ps : List ℕ). length old.pages + length ps) is.fresh_are in
      omega (arith, is.paged'.fits)

  pub used_after : (m used : ℕ) → m < count new → used + length old.pages ≡ m / 63 + 1 → used ≤ length fresh
  used_after m used lt used_are =
      let more : length new.pages ≡ length old.pages + length fresh = ap length is.grown.pages ∙ length-append old.pages is.grown.fresh ∙ ap
      (λ (ps : List ℕ). length old.pages + length ps) is.fresh_are in
      omega (arith, is.paged'.fits)

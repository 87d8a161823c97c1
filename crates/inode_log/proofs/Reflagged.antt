-- One word of a Write changes: what is said of the log differs there alone.
use Rattle.std.proofs.Common.{
  ◌≡◌,
  ◌≢◌,
  ◌⊎◌,
  inl,
  inr,
  ⊎_elim,
  ℕ,
  zero,
  suc,
  ◌+◌,
  ◌-◌,
  ◌*◌,
  ◌/◌,
  ◌%◌,
  ◌^◌,
  ◌<◌,
  List,
  [],
  ◌∷◌,
  ◌++◌,
  length,
  get_or,
  refl,
  sym,
  ◌∙◌,
  ap,
  subst,
  arith,
  length-append,
}
use Rattle.std.specs.Prelude.{slice_index, All}
use Rattle.std.proofs.lemmas.Bool.{cases_lt, cases_eq}
use Rattle.std.proofs.lemmas.List.{get_or_append_left, get_or-append-add, get_or_at}
use Rattle.std.proofs.lemmas.List.Concat.{flat_map-append}
use Rattle.pm_device.specs.State.{State}
use Rattle.pm_device.specs.Reading.{Reads, Stands, DiffersAt, IsReady}
use Rattle.pm_device.specs.Commit.{IsDone, LeavesOneWord}
use Rattle.pm_device.specs.Settled.{LeavesOnly, StoresOnly}
use Rattle.pm_device.proofs.Moments.{leaves_only-weaken}
use Rattle.pm_device.proofs.Layers.{leaves_only-stores}
use Rattle.pm_device.proofs.OneWord.{stands_new, stands-stores}
use Rattle.pm_layout.specs.declared.Geometry.{Geometry}
use Rattle.pm_layout.specs.Geometry.{InData}
use Rattle.log_entry.specs.Spelling.{spelling, spelled, flag_number, IsSpelled}
use Rattle.log_entry.specs.declared.item.Flag.{Flag}
use Rattle.log_entry.specs.declared.item.LogItem.{LogItem}
use Rattle.log_entry.specs.declared.item.LogItem.TheVariants.{Write, Size, Add, Forget}
use Rattle.dn_model.specs.Log.{Log, LogSays, at_tail, at_head, at_footer, at_slot, IsPaged, count, tail_at, log_word, spelled_word}
use Rattle.dn_model.specs.Valid.{IsLog, MayStand}
use Rattle.dn_model.proofs.Append.{log_word_in_data, same_page, same_slot, no_footer, same_index}
use Rattle.dn_model.proofs.Regions.{inode_not_data}
use Rattle.inode_log.specs.Reflags.{
  IsWrite,
  with_flag,
  with_mask,
  Reflags,
  CanReflag,
  OldOrNewItem,
  NewItemStands,
  IsElsewhere,
  KeepsLogs,
  pages_written,
  FlagKeepsLog,
  MaskKeepsLog,
}

-- a change of a Write that is one of word j of its slot
pub record IsWordChange (change : LogItem → LogItem) (j value : ℕ) (item : LogItem) : Type 0 where
  pub words : List ℕ
  pub words' : List ℕ
  pub is : spelling item ≡ words ∷ []
  pub is' : spelling (change item) ≡ words' ∷ []
  pub same : (l : ℕ) → l ≢ j → slice_index words' l ≡ slice_index words l
  pub word : slice_index words' j ≡ value

others_5 : (a b c d e f g h m l : ℕ) → l ≢ 5 → slice_index (a ∷ b ∷ c ∷ d ∷ e ∷ f ∷ g ∷ h ∷ []) l ≡ slice_index (a ∷ b ∷ c ∷ d ∷ e ∷ m ∷ g ∷ h ∷ []) l
others_5 a b c d e f g h m zero ne = refl
others_5 a b c d e f g h m (suc zero) ne = refl
others_5 a b c d e f g h m (suc (suc zero)) ne = refl
others_5 a b c d e f g h m (suc (suc (suc zero))) ne = refl
others_5 a b c d e f g h m (suc (suc (suc (suc zero)))) ne = refl
others_5 a b c d e f g h m (suc (suc (suc (suc (suc zero))))) ne = absurd (ne refl)
others_5 a b c d e f g h m (suc (suc (suc (suc (suc (suc l)))))) ne = refl

others_6 : (a b c d e f g h m l : ℕ) → l ≢ 6 → slice_index (a ∷ b ∷ c ∷ d ∷ e ∷ f ∷ g ∷ h ∷ []) l ≡ slice_index (a ∷ b ∷ c ∷ d ∷ e ∷ f ∷ m ∷ h ∷ []) l
others_6 a b c d e f g h m zero ne = refl
others_6 a b c d e f g h m (suc zero) ne = refl
others_6 a b c d e f g h m (suc (suc zero)) ne = refl
others_6 a b c d e f g h m (suc (suc (suc zero))) ne = refl
others_6 a b c d e f g h m (suc (suc (suc (suc zero)))) ne = refl
others_6 a b c d e f g h m (suc (suc (suc (suc (suc zero))))) ne = refl
others_6 a b c d e f g h m (suc (suc (suc (suc (suc (suc zero)))))) ne = absurd (ne refl)
others_6 a b c d e f g h m (suc (suc (suc (suc (suc (suc (suc l))))))) ne = refl

pub flag_changes : (flag : Flag) (item : LogItem) → IsWrite item → IsWordChange (with_flag flag) 5 (flag_number flag) item
unfolding spelling
flag_changes flag (Write first n block size was mask) write = record {
  words = 1 ∷ first ∷ n ∷ block ∷ size ∷ flag_number was ∷ mask ∷ 0 ∷ [];
  words' = 1 ∷ first ∷ n ∷ block ∷ size ∷ flag_number flag ∷ mask ∷ 0 ∷ [];
  is = refl;
  is' = refl;
  same = others_5 1 first n block size (flag_number flag) mask 0 (flag_number was);
  word = refl;
}
flag_changes flag (Size size) write = absurd write
flag_changes flag (Add ino name) write = absurd write
flag_changes flag (Forget name) write = absurd write

pub mask_changes : (mask : ℕ) (item : LogItem) → IsWrite item → IsWordChange (with_mask mask) 6 mask item
unfolding spelling
mask_changes mask (Write first n block size flag was) write = record {
  words = 1 ∷ first ∷ n ∷ block ∷ size ∷ flag_number flag ∷ was ∷ 0 ∷ [];
  words' = 1 ∷ first ∷ n ∷ block ∷ size ∷ flag_number flag ∷ mask ∷ 0 ∷ [];
  is = refl;
  is' = refl;
  same = others_6 1 first n block size (flag_number flag) mask 0 was;
  word = refl;
}
mask_changes mask (Size size) write = absurd write
mask_changes mask (Add ino name) write = absurd write
mask_changes mask (Forget name) write = absurd write

-- lists that differ in one element
other_element : (xs ys : List (List ℕ)) (w w' : List ℕ) (i : ℕ) → i ≢ length xs → get_or (xs ++ w' ∷ ys) i [] ≡ get_or (xs ++ w ∷ ys) i []
other_element xs ys w w' i ne = elim (cases_lt i (length xs)) [
  | inl low ↦ get_or_append_left xs (w' ∷ ys) [] i low ∙ sym (get_or_append_left xs (w ∷ ys) [] i low)
  | inr high ↦
      let e : length xs + suc (i - suc (length xs)) ≡ i = omega arith in
      subst (λ (n : ℕ). get_or (xs ++ w' ∷ ys) n [] ≡ get_or (xs ++ w ∷ ys) n []) e
      (get_or-append-add xs (w' ∷ ys) (suc (i - suc (length xs))) [] ∙ sym (get_or-append-add xs (w ∷ ys) (suc (i - suc (length xs))) []))
]

module _ (change : LogItem → LogItem) (j value slot : ℕ) (old new : Log) (reflags : Reflags change slot old new)
    (changes : IsWordChange change j value reflags.item) where
  abbrev place : ℕ
  place = length (spelled reflags.front)

  spelled_old : spelled old.items ≡ spelled reflags.front ++ changes.words ∷ spelled reflags.rest
  spelled_old = ap spelled reflags.items ∙ flat_map-append spelling reflags.front (reflags.item ∷ reflags.rest) ∙ ap
      (λ (ss : List (List ℕ)). spelled reflags.front ++ (ss ++ spelled reflags.rest)) changes.is

  spelled_new : spelled new.items ≡ spelled reflags.front ++ changes.words' ∷ spelled reflags.rest
  spelled_new = ap spelled reflags.items' ∙ flat_map-append spelling reflags.front (change reflags.item ∷ reflags.rest) ∙ ap
      (λ (ss : List (List ℕ)). spelled reflags.front ++ (ss ++ spelled reflags.rest)) changes.is'

  count_old : count old ≡ place + suc (length (spelled reflags.rest))
  unfolding count
  count_old = ap length spelled_old ∙ length-append (spelled reflags.front) (changes.words ∷ spelled reflags.rest)

  pub same_count : count new ≡ count old
  unfolding count
  same_count = ap length spelled_new ∙ length-append (spelled reflags.front) (changes.words' ∷ spelled reflags.rest) ∙ sym count_old

  pub place_within : place < count old
  place_within = omega (arith, count_old)

  pub word_here : spelled_word new place j ≡ value
  unfolding spelled_word
  word_here = ap (λ (ss : List (List ℕ)). slice_index (get_or ss place []) j) spelled_new
      ∙ ap (λ (s : List ℕ). slice_index s j) (get_or_at (spelled reflags.front) changes.words' (spelled reflags.rest) [] place refl) ∙ changes.word

  pub word_there : (i l : ℕ) → (i ≢ place) ⊎ (l ≢ j) → spelled_word new i l ≡ spelled_word old i l
  unfolding spelled_word
  word_there i l other = elim (cases_eq i place) [
    | inl e ↦
        let ne : l ≢ j = ⊎_elim (λ (far : i ≢ place). absurd (far e)) (λ (near : l ≢ j). near) other in
        ap (λ (ss : List (List ℕ)). slice_index (get_or ss i []) l) spelled_new
        ∙ ap (λ (s : List ℕ). slice_index s l) (get_or_at (spelled reflags.front) changes.words' (spelled reflags.rest) [] i (sym e))
        ∙ changes.same l ne
        ∙ sym (ap (λ (s : List ℕ). slice_index s l) (get_or_at (spelled reflags.front) changes.words (spelled reflags.rest) [] i (sym e)))
        ∙ ap (λ (ss : List (List ℕ)). slice_index (get_or ss i []) l) (sym spelled_old)
    | inr far ↦
        ap (λ (ss : List (List ℕ)). slice_index (get_or ss i []) l) spelled_new
        ∙ ap (λ (s : List ℕ). slice_index s l) (other_element (spelled reflags.front) (spelled reflags.rest) changes.words changes.words' i far)
        ∙ ap (λ (ss : List (List ℕ)). slice_index (get_or ss i []) l) (sym spelled_old)
  ]

  -- what is said of the new log was said of the old one, but at this word
  module _ (g : Geometry) (ino : ℕ) (paged : IsPaged g old) (in_table : ino < g.inodes) (small : j < 8) where
    abbrev Nothing : ℕ → ℕ → Type 0
    Nothing a v = ⊥

    here : 8 * slot + j ≡ log_word old.pages place j
    here = omega (arith, reflags.slot_is)

    page_here : InData g (slice_index old.pages (place / 63))
    page_here = log_word_in_data g old place paged place_within

    tail_same : tail_at new.pages (count new) ≡ tail_at old.pages (count old)
    tail_same = ap (λ (ps : List ℕ). tail_at ps (count new)) reflags.pages ∙ ap (tail_at old.pages) same_count

    pub reflagged_differs : DiffersAt (LogSays ino old) (LogSays ino new) Nothing (8 * slot + j) value
    reflagged_differs a v (at_tail where_is value_is) =
        inr (
          λ e. inode_not_data g ino 2 (slice_index old.pages (place / 63)) (8 * (place % 63) + j) in_table (omega arith) page_here
              (omega (arith, where_is, e, here)),
          inl (at_tail where_is (value_is ∙ tail_same)),
        )
    reflagged_differs a v (at_head some where_is value_is) =
        inr (
          λ e. inode_not_data g ino 1 (slice_index old.pages (place / 63)) (8 * (place % 63) + j) in_table (omega arith) page_here
              (omega (arith, where_is, e, here)),
          inl (at_head (omega (arith, some, same_count)) where_is (value_is ∙ ap (λ (ps : List ℕ). slice_index ps 0) reflags.pages)),
        )
    reflagged_differs a v (at_footer k lt where_is value_is) =
        let where_old : a ≡ 512 * slice_index old.pages k + 504 = where_is ∙ ap (λ (ps : List ℕ). 512 * slice_index ps k + 504) reflags.pages in
        inr (
          λ e. no_footer (slice_index old.pages k) (slice_index old.pages (place / 63)) (place % 63) j (omega arith) small
              (omega (arith, where_old, e, here)),
          inl (at_footer k (omega (arith, lt, ap length reflags.pages)) where_old (value_is ∙ ap (λ (ps : List ℕ). slice_index ps (k + 1))
              reflags.pages)),
        )
    reflagged_differs a v (at_slot i l lt word where_is value_is) =
        let where_old : a ≡ log_word old.pages i l = where_is ∙ ap (λ (ps : List ℕ). log_word ps i l) reflags.pages in
        let lt' : i < count old = omega (arith, lt, same_count) in
        elim (cases_eq a (8 * slot + j)) [
          | inl e ↦
              let both = same_slot (slice_index old.pages (i / 63)) (slice_index old.pages (place / 63)) (i % 63) (place % 63) l j (omega arith)
              (omega arith) word small (omega (arith, where_old, e, here)) in
              let page : i / 63 ≡ place / 63 = paged.apart (i / 63) (place / 63) (omega (arith, paged.fits)) (omega (arith, paged.fits, place_within))
              both.0 in
              let at_place : i ≡ place = same_index i place page both.1 in
              let at_word : l ≡ j = omega (arith, where_old, e, here, both.0, both.1) in
              inl (e, value_is ∙ ap (λ (n : ℕ). spelled_word new n l) at_place ∙ ap (λ (n : ℕ). spelled_word new place n) at_word ∙ word_here)
          | inr ne ↦
              inr (
                ne,
                inl (at_slot i l lt' word where_old (value_is ∙ word_there i l (elim (cases_eq i place) [
                  | inl at_place ↦ inr (λ at_word. ne (where_old ∙ ap (λ (n : ℕ). log_word old.pages n l) at_place ∙ ap
                      (λ (n : ℕ). log_word old.pages place n) at_word ∙ sym here))
                  | inr far ↦ inl far
                ]))),
              )
        ]

-- Where nothing else is said anew, an image with the word old or new has what was said before or what is said after.
module _ (says says' : ℕ → ℕ → Type 0) (at value : ℕ) (s : State) (c : List ℕ) (differs : DiffersAt says says' (λ a v. ⊥) at value)
    (stands : Stands says s) (leaves : LeavesOneWord at value s c) where
  reads_at : (a v n : ℕ) → a ≡ at → slice_index c at ≡ n → v ≡ n → slice_index c a ≡ v
  reads_at a v n here is told = subst (λ (b : ℕ). slice_index c b ≡ n) (sym here) is ∙ sym told

  reads_apart : (a v : ℕ) → says a v → a ≢ at → slice_index c a ≡ v
  reads_apart a v told ne = leaves.others a (stands.within a v told) (stands.settled a v told) ne ∙ stands.reads a v told

  reads_before : slice_index c at ≡ slice_index s.now at → Reads says c
  reads_before same a v told = elim (cases_eq a at) [
    | inl e ↦ reads_at a v (slice_index s.now at) e same (sym (stands.reads a v told) ∙ ap (slice_index s.now) e)
    | inr ne ↦ reads_apart a v told ne
  ]

  reads_after : slice_index c at ≡ value → Reads says' c
  reads_after moved a v told = ⊎_elim
      (λ (here : (a ≡ at) × (v ≡ value)). reads_at a v value here.0 moved here.1)
      (λ (there : (a ≢ at) × (says a v ⊎ ⊥)). ⊎_elim (λ (before : says a v). reads_apart a v before there.0) (λ (none : ⊥). absurd none) there.1)
      (differs a v told)

  reads_either : Reads says c ⊎ Reads says' c
  reads_either = ⊎_elim (λ same. inl (reads_before same)) (λ moved. inr (reads_after moved)) leaves.word

-- so it is once that word is set
module _ (g : Geometry) (change : LogItem → LogItem) (who slot j value at : ℕ) (s t : State) (place : at ≡ 8 * slot + j) (small : j < 8)
    (changes : (item : LogItem) → IsWrite item → IsWordChange change j value item) where
  differs_there : (ino : ℕ) (old new : Log) → CanReflag g change ino slot old new s → DiffersAt (LogSays ino old) (LogSays ino new) (λ a v. ⊥) at
      value
  differs_there ino old new can = subst (λ (b : ℕ). DiffersAt (LogSays ino old) (LogSays ino new) (λ a v. ⊥) b value) (sym place)
      (reflagged_differs change j value slot old new can.reflags (changes can.reflags.item can.reflags.is_write) g ino can.paged can.in_table small)

  nothing_ready : IsReady who (λ a v. ⊥) s
  nothing_ready = record { within = λ a v told. absurd told; reads = λ a v told. absurd told; flushed = λ a v told. absurd told }

  pub old_or_new_item : LeavesOnly s t (LeavesOneWord at value s) → OldOrNewItem g change slot s t
  old_or_new_item leaves ino old new can = leaves_only-weaken s t (LeavesOneWord at value s) (λ c. Reads (LogSays ino old) c ⊎ Reads (LogSays ino new)
      c)
      (λ c one. reads_either (LogSays ino old) (LogSays ino new) at value s c (differs_there ino old new can) can.stands one) leaves

  pub new_item_stands : at < length s.now → IsDone who at value s t → StoresOnly (λ a. a ≡ at) s t → NewItemStands g change slot s t
  new_item_stands inside done only ino old new can =
      stands_new (LogSays ino old) (LogSays ino new) (λ a v. ⊥) who at value s t (differs_there ino old new can) can.stands nothing_ready inside done
      only

  -- and no word of another log is stored to
  apart_there : (ino : ℕ) (log : Log) → InData g (slot / 64) → IsElsewhere g ino (slot / 64) log s → (a v : ℕ) → LogSays ino log a v → a ≡ at → ⊥
  apart_there ino log in_data other a v (at_tail where_is value_is) e = inode_not_data g ino 2 (slot / 64) (8 * (slot % 64) + j) other.in_table
      (omega arith) in_data (omega (arith, where_is, e, place))
  apart_there ino log in_data other a v (at_head some where_is value_is) e = inode_not_data g ino 1 (slot / 64) (8 * (slot % 64) + j) other.in_table
      (omega arith) in_data (omega (arith, where_is, e, place))
  apart_there ino log in_data other a v (at_footer k lt where_is value_is) e =
      other.other k (omega arith) (same_page (slice_index log.pages k) (slot / 64) 504 (8 * (slot % 64) + j) (omega arith) (omega (arith, small))
      (omega (arith, where_is, e, place)))
  apart_there ino log in_data other a v (at_slot i l lt word where_is value_is) e =
      other.other (i / 63) (omega (arith, lt, other.paged.fits)) (same_page (slice_index log.pages (i / 63)) (slot / 64) (8 * (i % 63) + l)
      (8 * (slot % 64) + j) (omega (arith, word)) (omega (arith, small)) (omega (arith, where_is, e, place)))

  pub keeps_logs : InData g (slot / 64) → StoresOnly (λ a. a ≡ at) s t → KeepsLogs g slot s t
  keeps_logs in_data only ino log other = record {
    images = leaves_only-stores (λ a. a ≡ at) s t (LogSays ino log) only (apart_there ino log in_data other) other.stands;
    stands = stands-stores (λ a. a ≡ at) s t only (LogSays ino log) (apart_there ino log in_data other) other.stands;
  }

-- a list with one element changed
all_changed : (P : LogItem → Type 0) (xs ys : List LogItem) (x y : LogItem) → All P (xs ++ x ∷ ys) → (P x → P y) → All P (xs ++ y ∷ ys)
all_changed P [] ys x y all f zero d lt = f (all zero d (omega arith))
all_changed P [] ys x y all f (suc k) d lt = all (suc k) d (omega arith)
all_changed P (z ∷ xs) ys x y all f zero d lt = all zero d (omega arith)
all_changed P (z ∷ xs) ys x y all f (suc k) d lt = all_changed P xs ys x y (λ j e l. all (suc j) e (omega arith)) f k d (omega arith)

-- a log without a fault has none then
module _ (g : Geometry) (ino : ℕ) (change : LogItem → LogItem) (j value slot : ℕ) (old new : Log) (reflags : Reflags change slot old new)
    (changes : IsWordChange change j value reflags.item) (valid : IsLog g ino old) where
  log_kept : (IsSpelled reflags.item → IsSpelled (change reflags.item)) → (MayStand g ino reflags.item → MayStand g ino (change reflags.item))
      → IsLog g ino new
  log_kept spells stands = record {
    paged = record {
      fits = ap length reflags.pages ∙ valid.paged.fits ∙ ap (λ (n : ℕ). (n + 62) / 63)
          (sym (same_count change j value slot old new reflags changes));
      in_data = λ k lt. subst (λ (ps : List ℕ). InData g (slice_index ps k)) (sym reflags.pages)
          (valid.paged.in_data k (omega (arith, lt, ap length reflags.pages)));
      apart = λ i k il kl e. valid.paged.apart i k (omega (arith, il, ap length reflags.pages)) (omega (arith, kl, ap length reflags.pages))
          (sym (ap (λ (ps : List ℕ). slice_index ps i) reflags.pages) ∙ e ∙ ap (λ (ps : List ℕ). slice_index ps k) reflags.pages);
    };
    spelled = subst (All IsSpelled) (sym reflags.items') (all_changed IsSpelled reflags.front reflags.rest reflags.item (change reflags.item)
        (subst (All IsSpelled) reflags.items valid.spelled) spells);
    standing = subst (All (MayStand g ino)) (sym reflags.items') (all_changed (MayStand g ino) reflags.front reflags.rest reflags.item
        (change reflags.item) (subst (All (MayStand g ino)) reflags.items valid.standing) stands);
  }

flag_spells : (flag : Flag) (item : LogItem) → IsSpelled item → IsSpelled (with_flag flag item)
flag_spells flag (Write first n block size was mask) spelled = spelled
flag_spells flag (Size size) spelled = spelled
flag_spells flag (Add ino name) spelled = spelled
flag_spells flag (Forget name) spelled = spelled

flag_stands : (g : Geometry) (ino : ℕ) (flag : Flag) (item : LogItem) → MayStand g ino item → MayStand g ino (with_flag flag item)
flag_stands g zero flag (Write first n block size was mask) stands = stands
flag_stands g (suc i) flag (Write first n block size was mask) stands = stands
flag_stands g ino flag (Size size) stands = stands
flag_stands g ino flag (Add named name) stands = stands
flag_stands g ino flag (Forget name) stands = stands

mask_spells : (m : ℕ) (item : LogItem) → m < 2 ^ pages_written item → IsSpelled item → IsSpelled (with_mask m item)
mask_spells m (Write first n block size flag was) small spelled = (spelled.0, spelled.1, spelled.2, spelled.3, small)
mask_spells m (Size size) small spelled = spelled
mask_spells m (Add ino name) small spelled = spelled
mask_spells m (Forget name) small spelled = spelled

mask_stands : (g : Geometry) (ino m : ℕ) (item : LogItem) → MayStand g ino item → MayStand g ino (with_mask m item)
mask_stands g zero m (Write first n block size flag was) stands = stands
mask_stands g (suc i) m (Write first n block size flag was) stands = stands
mask_stands g ino m (Size size) stands = stands
mask_stands g ino m (Add named name) stands = stands
mask_stands g ino m (Forget name) stands = stands

pub flag_keeps_log : FlagKeepsLog
flag_keeps_log g ino flag slot old new reflags valid =
    log_kept g ino (with_flag flag) 5 (flag_number flag) slot old new reflags (flag_changes flag reflags.item reflags.is_write) valid
    (flag_spells flag reflags.item) (flag_stands g ino flag reflags.item)

pub mask_keeps_log : MaskKeepsLog
mask_keeps_log g ino m slot old new reflags small valid =
    log_kept g ino (with_mask m) 6 m slot old new reflags (mask_changes m reflags.item reflags.is_write) valid (mask_spells m reflags.item small)
    (mask_stands g ino m reflags.item)

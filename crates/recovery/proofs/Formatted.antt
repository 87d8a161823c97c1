-- What a stop leaves while a device is formatted, and what stands after.
use Rattle.std.proofs.Common.{
  ◌≡◌,
  ◌≢◌,
  inl,
  inr,
  ⊎_elim,
  ℕ,
  ◌*◌,
  ◌<◌,
  List,
  length,
  refl,
  sym,
  ◌∙◌,
  ap,
  subst,
  arith,
  get_or-set_same,
  get_or-set_other,
}
use Rattle.std.specs.Prelude.{slice_index, Option, Result, Ok, Err, OnOk}
use Rattle.std.proofs.lemmas.Bool.{cases_eq}
use Rattle.std.proofs.lemmas.Grind.{same_number_lists}
use Rattle.pm_device.specs.Past.{Past, Left, moment}
use Rattle.pm_device.specs.State.{State, Agree, IsSame}
use Rattle.pm_device.specs.Settled.{IsRead, IsSettled, Still, Extends, LeavesOnly, StoresOnly, Nowhere}
use Rattle.pm_device.specs.Commit.{IsCommitted, IsDone}
use Rattle.pm_device.specs.Reading.{Reads, Stands}
use Rattle.pm_device.proofs.Calls.{settled_is_flushed, image_has}
use Rattle.pm_device.proofs.Layers.{leaves_only-then, leaves_only-stores, settled-stores}
use Rattle.pm_device.proofs.Only.{stores_only-same}
use Rattle.pm_device.proofs.Moments.{leaves_only-weaken, started}
use Rattle.pm_device.proofs.OneWord.{stands-stores}
use Rattle.pm_layout.specs.declared.Geometry.{Geometry}
use Rattle.pm_layout.specs.Geometry.{IsAccepted, gate_word}
use Rattle.dn_model.specs.Disk.{DiskSays, of_head, at_magic}
use Rattle.dn_model.specs.Image.{StandsFor}
use Rattle.dn_model.specs.Faults.{FaultOf, not_an_image}
use Rattle.dn_model.specs.declared.fault.ImageFault.TheVariants.{NotAnImage}
use Rattle.law_write.proofs.WriteEvent.{length-left, stands_for_read}
use Rattle.dn_model.specs.Empty.{empty_disk}
use Rattle.recovery.specs.Tables.{AllFlushed, IsBehindMagic, HasParts}
use Rattle.dn_model.specs.Empty.{IsFormatting, IsFormatted}
use Rattle.recovery.proofs.EmptyDisk.{valid, own, no_files}
use Rattle.recovery.proofs.Making.{some_tables}
use Rattle.recovery.proofs.Parts.{IsMagic, Made, made, kept}

-- an image that may be left has as many words as the device
leaves_long : (s t : State) (P : List ℕ → Type 0) → Agree t.now t.past → LeavesOnly s t P → LeavesOnly s t (λ c. P c × (length c ≡ length t.now))
leaves_long s t P agree leaves = record {
  extends = leaves.extends;
  each = λ m c le left. (
    leaves.each m c le left,
    length-left t.past t.now m c agree
        left,
  );
}

not_image : (c : List ℕ) → slice_index c 0 ≡ 0 → FaultOf c NotAnImage
not_image c e = not_an_image (λ is. omega (arith, e, is.magic))

-- a call that changes nothing but the spare units
module _ (s t : State) (same : IsSame s t) where
  pub same_still : Agree s.now s.past → Still s → Still t
  same_still agree still a lt = settled-stores Nowhere s t a (stores_only-same Nowhere s t agree same) (λ none. none)
      (still a (omega (arith, lt, ap length same.now)))

  leaves_after : (P : List ℕ → Type 0) → LeavesOnly s s P → LeavesOnly s t P
  leaves_after P leaves = record {
    extends = subst (Extends s.past) (sym same.past) leaves.extends;
    each = λ m c le left. leaves.each m c le (subst (λ (p : Option Past). Left p m c) same.past left);
  }

-- the words that are read are such an image, and no other is left
pub still_leaves : (g : Geometry) (s : State) → Agree s.now s.past → Still s → LeavesOnly s s (IsFormatting g s.now)
still_leaves g s agree still = started s (IsFormatting g s.now) (λ c left.
    let long = length-left s.past s.now (moment s.past) c agree left in
    inl (same_number_lists c s.now long (λ a lt. let within : a < length s.now = omega (arith, lt, long) in image_has s c a (IsRead s a) agree left
    within (still a within))))

pub same_leaves : (g : Geometry) (s t : State) → IsSame s t → Agree s.now s.past → Still s → LeavesOnly s t (IsFormatting g s.now)
same_leaves g s t same agree still = leaves_after s t same (IsFormatting g s.now) (still_leaves g s agree still)

-- the magic is cleared
module _ (g : Geometry) (who : ℕ) (s t : State) (still : Still s) (some : 0 < length s.now) (long : length t.now ≡ length s.now) where
  clearing : (c : List ℕ) → length c ≡ length s.now → IsCommitted who 0 0 s c → IsFormatting g s.now c
  clearing c same is = ⊎_elim
      (λ (old : slice_index c 0 ≡ slice_index s.now 0). inl (same_number_lists c s.now same (λ a lt. each old a (omega (arith, lt, same)))))
      (λ new. inr (inl (not_image c new.0)))
      is.word
    where
      each : slice_index c 0 ≡ slice_index s.now 0 → (a : ℕ) → a < length s.now → slice_index c a ≡ slice_index s.now a
      each old a lt = elim (cases_eq a 0) [
        | inl e ↦ subst (λ (b : ℕ). slice_index c b ≡ slice_index s.now b) (sym e) old
        | inr ne ↦ is.others a lt (still a lt) ne
      ]

  pub clear_leaves : Agree t.now t.past → LeavesOnly s t (IsCommitted who 0 0 s) → LeavesOnly s t (IsFormatting g s.now)
  clear_leaves agree leaves = leaves_only-weaken s t _ (IsFormatting g s.now) (λ c is. clearing c (is.1 ∙ long) is.0)
      (leaves_long s t (IsCommitted who 0 0 s) agree leaves)

  module _ (done : IsDone who 0 0 s t) where
    pub cleared_still : Still t
    cleared_still a lt = elim (cases_eq a 0) [
      | inl e ↦ subst (IsSettled t) (sym e) done.word
      | inr ne ↦ let within : a < length s.now = omega (arith, lt, long) in done.flushed a within (settled_is_flushed s who a (still a within)) ne
    ]

    pub cleared_flushed : AllFlushed who t
    cleared_flushed a lt = settled_is_flushed t who a (cleared_still a lt)

    pub cleared_zero : slice_index t.now 0 ≡ 0
    cleared_zero = ap (λ (xs : List ℕ). slice_index xs 0) done.now ∙ get_or-set_same s.now 0 0 0 some

    pub cleared_others : (a : ℕ) → a ≢ 0 → slice_index t.now a ≡ slice_index s.now a
    cleared_others a ne = ap (λ (xs : List ℕ). slice_index xs a) done.now ∙ get_or-set_other s.now 0 a 0 0 ne

-- the words behind the magic are made, and nothing is an image
abbrev NoMagic : ℕ → ℕ → Type 0
NoMagic a v = (a ≡ 0) × (v ≡ 0)

module _ (g : Geometry) (w : List ℕ) (t u : State) (still : Still t) (some : 0 < length t.now) (zero_t : slice_index t.now 0 ≡ 0)
    (only : StoresOnly IsBehindMagic t u) where
  no_magic : Stands NoMagic t
  no_magic = record {
    within = λ a v is. omega (arith, is.0, some);
    reads = λ a v is. ap (slice_index t.now) is.0 ∙ zero_t ∙ sym is.1;
    settled = λ a v is. still a (omega (arith, is.0, some));
  }

  apart : (a v : ℕ) → NoMagic a v → IsBehindMagic a → ⊥
  apart a v is behind = omega (arith, is.0, behind)

  no_magic_yet : Stands NoMagic u
  no_magic_yet = stands-stores IsBehindMagic t u only NoMagic apart no_magic

  pub made_zero : slice_index u.now 0 ≡ 0
  made_zero = no_magic_yet.reads 0 0 (refl, refl)

  pub made_settled : IsSettled u 0
  made_settled = no_magic_yet.settled 0 0 (refl, refl)

  pub making_leaves : LeavesOnly t u (IsFormatting g w)
  making_leaves = leaves_only-weaken t u (Reads NoMagic) (IsFormatting g w) (λ c reads. inr (inl (not_image c (reads 0 0 (refl, refl)))))
      (leaves_only-stores IsBehindMagic t u NoMagic only apart no_magic)

-- the magic is stored
module _ (g : Geometry) (who : ℕ) (w : List ℕ) (before : List ℕ) (u v : State) (accepted : IsAccepted g) (size : length u.now ≡ 512 * g.pages)
    (has : HasParts g before u.now)
    (zero_u : slice_index u.now 0 ≡ 0) (flushed : AllFlushed who u) (long : length v.now ≡ length u.now) where
  reads_empty : (c : List ℕ) → slice_index c 0 ≡ 0x313041564F4E4544 → ((a : ℕ) → a < length u.now → a ≢ 0 → slice_index c a ≡ slice_index u.now a)
      → Reads (DiskSays (empty_disk g)) c
  reads_empty c magic others a v told = ⊎_elim
      (λ (is : IsMagic a v). ap (slice_index c) is.0 ∙ magic ∙ sym is.1)
      (λ (is : Made g u.now a v). others a (omega (arith, is.low, size, accepted.room)) is.behind ∙ is.is)
      (made g before u.now accepted has a v (omega (arith, some_tables g accepted.inodes)) told)

  stands_empty : (c : List ℕ) → length c ≡ length u.now → slice_index c 0 ≡ 0x313041564F4E4544
      → ((a : ℕ) → a < length u.now → a ≢ 0 → slice_index c a ≡ slice_index u.now a) → StandsFor c (empty_disk g)
  stands_empty c same magic others = stands_for_read (empty_disk g) c (valid g accepted) (reads_empty c magic others) (same ∙ size)

  committing : (c : List ℕ) → length c ≡ length u.now → IsCommitted who 0 0x313041564F4E4544 u c → IsFormatting g w c
  committing c same is = ⊎_elim
      (λ (old : slice_index c 0 ≡ slice_index u.now 0). inr (inl (not_image c (old ∙ zero_u))))
      (λ new. inr (inr (stands_empty c same new.0 (λ a lt ne. new.1 a lt (flushed a lt) ne))))
      is.word

  pub magic_leaves : Agree v.now v.past → LeavesOnly u v (IsCommitted who 0 0x313041564F4E4544 u) → LeavesOnly u v (IsFormatting g w)
  magic_leaves agree leaves =
      leaves_only-weaken u v _ (IsFormatting g w) (λ c is. committing c (is.1 ∙ long) is.0) (leaves_long u v (IsCommitted who 0 0x313041564F4E4544 u)
      agree leaves)

  module _ (done : IsDone who 0 0x313041564F4E4544 u v) (kept_before : (a : ℕ) → a ≢ 0 → slice_index before a ≡ slice_index w a) where
    magic : slice_index v.now 0 ≡ 0x313041564F4E4544
    magic = ap (λ (xs : List ℕ). slice_index xs 0) done.now ∙ get_or-set_same u.now 0 0x313041564F4E4544 0 (omega (arith, size, accepted.pages))

    others : (a : ℕ) → a ≢ 0 → slice_index v.now a ≡ slice_index u.now a
    others a ne = ap (λ (xs : List ℕ). slice_index xs a) done.now ∙ get_or-set_other u.now 0 a 0x313041564F4E4544 0 ne

    new_still : Still v
    new_still a lt = elim (cases_eq a 0) [
      | inl e ↦ subst (IsSettled v) (sym e) done.word
      | inr ne ↦ let within : a < length u.now = omega (arith, lt, long) in done.flushed a within (flushed a within) ne
    ]

    pub formatted : IsFormatted g w v
    formatted =
        let stands = stands_empty v.now long magic (λ a lt ne. others a ne) in
        record {
          stands_for = stands;
          closed = others gate_word (λ e. omega arith) ∙ has.gate;
          still = new_still;
          own = λ print. record { disk = empty_disk g; stands_for = stands; own = own g print };
          no_files = no_files g;
          unread = λ a none.
              let ne : a ≢ 0 = (λ e. none (record { value = 0x313041564F4E4544; told = of_head (at_magic e refl) })) in
              others a ne ∙ kept g before u.now accepted has a none ∙ kept_before a ne;
        }

-- the magic is cleared, the other words are made, and the magic is stored
pub record Formats (g : Geometry) (who : ℕ) (s t u v : State) : Type 0 where
  pub accepted : IsAccepted g
  pub size : length s.now ≡ 512 * g.pages
  pub still : Still s
  pub agree_t : Agree t.now t.past
  pub agree_v : Agree v.now v.past
  pub first : LeavesOnly s t (IsCommitted who 0 0 s)
  pub first_words : length t.now ≡ length s.now
  pub cleared : IsDone who 0 0 s t
  pub only : StoresOnly IsBehindMagic t u
  pub made : HasParts g t.now u.now
  pub flushed : AllFlushed who u
  pub last : LeavesOnly u v (IsCommitted who 0 0x313041564F4E4544 u)
  pub last_words : length v.now ≡ length u.now

module _ (g : Geometry) (who : ℕ) (s t u v : State) (is : Formats g who s t u v) where
  some_s : 0 < length s.now
  some_s = omega (arith, is.size, is.accepted.pages)

  some_t : 0 < length t.now
  some_t = omega (arith, is.first_words, some_s)

  zero_t : slice_index t.now 0 ≡ 0
  zero_t = cleared_zero g who s t is.still some_s is.first_words is.cleared

  still_t : Still t
  still_t = cleared_still g who s t is.still some_s is.first_words is.cleared

  zero_u : slice_index u.now 0 ≡ 0
  zero_u = made_zero g s.now t u still_t some_t zero_t is.only

  size_u : length u.now ≡ 512 * g.pages
  size_u = is.only.words ∙ is.first_words ∙ is.size

  pub formats_leaves : LeavesOnly s v (IsFormatting g s.now)
  formats_leaves = leaves_only-then s t v (IsFormatting g s.now) (clear_leaves g who s t is.still some_s is.first_words is.agree_t is.first)
      (leaves_only-then t u v (IsFormatting g s.now) (making_leaves g s.now t u still_t some_t zero_t is.only)
      (magic_leaves g who s.now t.now u v is.accepted size_u is.made zero_u is.flushed is.last_words is.agree_v is.last))

  pub formats_done : IsDone who 0 0x313041564F4E4544 u v → IsFormatted g s.now v
  formats_done done =
      formatted g who s.now t.now u v is.accepted size_u is.made zero_u is.flushed is.last_words done
      (cleared_others g who s t is.still some_s is.first_words is.cleared)

pub on_ok_map : {T E : Type 0} (r : Result T E) (P Q : Type 0) → (P → Q) → OnOk r P → OnOk r Q
on_ok_map (Ok x) P Q gives holds = gives holds
on_ok_map (Err e) P Q gives holds = tt

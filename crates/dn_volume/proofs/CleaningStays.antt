-- A cleaning stays as far as it is through an event that is for other inodes and pages.
use Rattle.std.proofs.Common.{◌≡◌, ℕ, ◌/◌, ◌<◌, List, length, sym, ◌∙◌, ap, subst, arith}
use Rattle.std.specs.Prelude.{slice_index, Contains}
use Rattle.std.specs.Option.{option_map}
use Rattle.std.proofs.lemmas.List.Elements.{Contains-get_or}
use Rattle.pm_device.specs.State.{State}
use Rattle.pm_device.specs.Settled.{StoresOnly}
use Rattle.pm_device.specs.Reading.{Stands}
use Rattle.pm_device.specs.Pages.{IsInPage}
use Rattle.pm_device.proofs.Layers.{settled-stores}
use Rattle.pm_layout.specs.declared.Geometry.{Geometry}
use Rattle.log_entry.specs.Spelling.{spelled}
use Rattle.file_content.specs.Content.{kept}
use Rattle.dn_model.specs.Log.{Log, IsPaged, count, placed}
use Rattle.dn_model.specs.Maps.{mapping}
use Rattle.dn_model.specs.Disk.{Disk, Inode}
use Rattle.dn_model.specs.Valid.{IsValid}
use Rattle.law_write.specs.Events.{IsUnused}
use Rattle.law_clean.specs.Cleaned.{cleaned_items, cleaned_log, IsWorthCleaning}
use Rattle.dn_volume.specs.declared.background.Cleaning.{Cleaning}
use Rattle.dn_volume.specs.Cleans.{new_log, due_slots, IsCleaning}
use Rattle.log_replace.specs.Bodies.{PageSays, page_link, page_slot, BodyTo}
use Rattle.dn_volume.specs.Rely.{KeepsRest, IsWordOf}
use Rattle.dn_volume.proofs.Owned.{page_out}

module _ (inodes pages : List ℕ) (d e : Disk) (s t : State) (valid : IsValid d) (rest : KeepsRest inodes pages d e)
    (only : StoresOnly (IsWordOf inodes pages d) s t) (c : Cleaning) (out : Contains inodes c.ino → ⊥)
    (unused : (page : ℕ) → Contains c.pages.items page → IsUnused d page)
    (out_pages : (page : ℕ) → Contains c.pages.items page → Contains pages page → ⊥) (is : IsCleaning d c s) where
  log_same : (e.inode c.ino).log ≡ (d.inode c.ino).log
  log_same = ap (λ (n : Inode). n.log) (rest.inode c.ino out)

  new_same : new_log e c ≡ new_log d c
  new_same = ap (λ (log : Log). cleaned_log c.ino log c.pages.items) log_same

  page_apart : (k a : ℕ) → k < length c.pages.items → IsInPage (slice_index c.pages.items k) a → IsWordOf inodes pages d a → ⊥
  page_apart k a lt here =
      let has = Contains-get_or c.pages.items k 0 lt in
      page_out inodes pages d valid (slice_index c.pages.items k) a (unused (slice_index c.pages.items k) has) (out_pages (slice_index c.pages.items k) has) here

  fits : (n : ℕ) → n < count (new_log d c) → n / 63 < length c.pages.items
  fits n lt = let long = is.paged.fits in omega (arith, lt, long)

  says_apart : (k a v : ℕ) → PageSays (new_log d c) k a v → IsWordOf inodes pages d a → ⊥
  says_apart k a v (page_link more at value) = page_apart k a (omega (arith, more)) (omega (arith, at), omega (arith, at))
  says_apart k a v (page_slot n j of_page lt small at value) = page_apart (n / 63) a (fits n lt) (omega (arith, at), omega (arith, at, small))

  stands_still : Stands (BodyTo (new_log d c) c.written) t
  stands_still = record {
    within = λ a v said. let lt = is.stands.within a v said in let same = only.words in omega (arith, lt, same);
    reads = λ a v said. only.read a (says_apart said.page a v said.says) ∙ is.stands.reads a v said;
    settled = λ a v said. settled-stores (IsWordOf inodes pages d) s t a only (says_apart said.page a v said.says) (is.stands.settled a v said);
  }

  pub cleaning_stays : IsCleaning e c t
  cleaning_stays = record {
    in_table = subst (λ (g : Geometry). c.ino < g.inodes) (sym rest.geometry) is.in_table;
    live = ap (λ (n : Inode). n.use_of) (rest.inode c.ino out) ∙ is.live;
    worth = subst (λ (log : Log). IsWorthCleaning c.ino log) (sym log_same) is.worth;
    paged = subst (λ (g : Geometry). IsPaged g (new_log e c)) (sym rest.geometry) (subst (λ (log : Log). IsPaged d.geometry log) (sym new_same) is.paged);
    slots = ap (λ (log : Log). spelled (cleaned_items c.ino log)) log_same ∙ is.slots;
    written_few = is.written_few;
    stands = subst (λ (log : Log). Stands (BodyTo log c.written) t) (sym new_same) stands_still;
    places = λ idx. is.places idx ∙ ap (λ (log : Log). option_map kept (mapping log idx)) (sym new_same);
    due = ap (λ (log : Log). due_slots (placed log)) new_same ∙ is.due;
  }

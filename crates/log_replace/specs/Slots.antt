-- What is stored into one page of a log.
use Rattle.std.specs.Prelude.{
  ◌≡◌,
  ℕ,
  ◌+◌,
  ◌-◌,
  ◌*◌,
  ◌<◌,
  ◌≤◌,
  List,
  [],
  length,
  slice_index,
  get_or,
}
use Rattle.pm_device.specs.State.{State}
use Rattle.pm_device.specs.Settled.{StoresOnly, KeepsFlushed, Anyone, FlushesAll}
use Rattle.pm_device.specs.Reading.{IsReady}
use Rattle.pm_device.specs.Words.{IsIn}
use Rattle.dn_model.specs.Log.{footer_word}

-- the slots from `first` on, before `last`, stand from the page's first word on
pub record SlotsSay (page : ℕ) (slots : List (List ℕ)) (first last a v : ℕ) : Type 0 where
  pub n : ℕ
  pub j : ℕ
  pub low : first ≤ n
  pub high : n < last
  pub small : j < 8
  pub place : a ≡ 512 * page + 8 * (n - first) + j
  pub value : v ≡ slice_index (get_or slots n []) j

-- so many words of a page from its first on, eight a slot
abbrev pub IsSlotWord : (page slots_in : ℕ) → ℕ → Type 0
IsSlotWord page slots_in a = IsIn (512 * page) (8 * slots_in) a

-- where a page follows, the last line of page k names it
pub record LinkSays (pages : List ℕ) (k a v : ℕ) : Type 0 where
  pub more : k + 1 < length pages
  pub place : a ≡ footer_word pages k
  pub value : v ≡ slice_index pages (k + 1)

-- its word
pub record IsLinkWord (pages : List ℕ) (k a : ℕ) : Type 0 where
  pub more : k + 1 < length pages
  pub place : a ≡ footer_word pages k

-- the slots before m are stored, since s
pub record StoresSlots (who page : ℕ) (slots : List (List ℕ)) (first last : ℕ) (s : State) (m : ℕ)
    (t : State) : Type 0 where
  pub only : StoresOnly (IsSlotWord page (last - first)) s t
  pub ready : IsReady who (SlotsSay page slots first m) t
  pub keeps : KeepsFlushed Anyone (IsSlotWord page (last - first)) s t
  pub flushes : FlushesAll who s t
  pub spare : s.spare + 9 * first ≤ t.spare + 9 * m
  pub faults : s.faults ≤ t.faults

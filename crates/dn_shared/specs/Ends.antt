-- How a volume is opened for threads, and what is left of it once they have ended.
use Rattle.std.specs.Prelude.{◌≡◌, ◌⊎◌, ℕ, ◌<◌, true, false, Bool, List, [], length, replicate, slice_index, Option, Some, None, All}
use Rattle.pm_device.specs.State.{State, Rose}
use Rattle.pm_layout.specs.Geometry.{slots}
use Rattle.dn_model.specs.Disk.{Disk}
use Rattle.dn_model.specs.Own.{Print}
use Rattle.dn_model.specs.Course.{Base}
use Rattle.dn_volume.specs.declared.flight.Flight.{Flight}
use Rattle.dn_volume.specs.declared.volume.Parts.{Parts}
use Rattle.dn_volume.specs.declared.volume.Volume.{Volume}
use Rattle.dn_volume.specs.Parties.{Flies, flight_of}
use Rattle.dn_volume.specs.Events.{word_at, word_after}
use Rattle.dn_volume.specs.Agrees.{IsVolume}
use Rattle.dn_volume.specs.Sound.{Sound}
use Rattle.count_board.specs.declared.told.Hand.{Hand}
use Rattle.count_board.specs.declared.told.Hand.TheVariants.{Fly, Gone}
use Rattle.count_board.specs.declared.view.Account.{Account}
use Rattle.count_board.specs.declared.board.Board.{Board}
use Rattle.count_board.specs.declared.pass.Pass.{Pass}
use Rattle.count_board.specs.Told.{entries_by}
use Rattle.count_board.specs.Reads.{ReadsFit, AllPast}
use Rattle.count_board.specs.Boards.{base_of}
use Rattle.count_board.specs.Passes.{account}
use Rattle.dn_shared.specs.declared.site.Site.{Site}
use Rattle.dn_shared.specs.Sites.{hand_in, mark_of}

-- nothing is in flight
abbrev pub NoneFlies : Parts → Type 0
NoneFlies b = (who : ℕ) (f : Flight) → Flies b who f → ⊥

-- a client that has left has nothing in flight
abbrev pub flying : Option Hand → Option Hand
flying None = None
flying (Some (Fly op)) = Some (Fly op)
flying (Some Gone) = None

module _ {D F : Type 0} where
  -- the count word of each slot's row, 0 without a row
  pub record AreCountWords (state : D → State) (v : Volume D F) (words : List ℕ) : Type 0 where
    pub long : length words ≡ slots v.parts.geometry
    pub each : (d : Disk) (slot : ℕ) → IsVolume d v.parts (state v.device)
        → slot < slots v.parts.geometry → slice_index words slot ≡ word_at d slot

  -- where the first volume kept to its history from some words, the second keeps to its own
  abbrev pub KeepsSound : (D → State) → Print → Volume D F → Volume D F → Type 0
  KeepsSound state print u v = (from : Base) → Sound state print from u → Sound state print from v

  -- a board that begins with this volume, of which no client has left
  pub record IsOpened (state : D → State) (v : Volume D F) (clients : ℕ) (b : Board (Site D F))
      : Type 0 where
    pub volume_is : (base_of b).volume ≡ v
    pub none_left : (base_of b).gone.items ≡ replicate clients false
    pub words : AreCountWords state v (base_of b).opening.items

  -- the history has just the entries of this account under its number
  abbrev pub HasCalls : Volume D F → Account → Type 0
  HasCalls v a = entries_by a.number v.parts.history.items ≡ a.calls

  -- and no others
  abbrev pub HasNoOthers : Volume D F → ℕ → Type 0
  HasNoOthers v made = (who : ℕ) → (made < who) ⊎ (who ≡ 0)
      → (entries_by who v.parts.history.items ≡ []) × (flight_of v.parts who ≡ None)

  -- what the account's number has in flight is what it has in hand
  abbrev pub HasInHand : Volume D F → Account → Type 0
  HasInHand v a = hand_in (flight_of v.parts a.number) ≡ flying a.hand

  -- what the account read fits the course of the count words
  abbrev pub HasRead : List ℕ → Volume D F → Account → Type 0
  HasRead words v a = ReadsFit words v.parts.trace.items a.seen

  -- no mark that the account saw has more than the volume
  abbrev pub HasSeenPast : List Bool → Volume D F → Account → Type 0
  HasSeenPast gone v a = AllPast (mark_of gone v.parts) a.seen

  -- so it is of each pass
  abbrev pub OfEach : (Account → Type 0) → List (Pass (Site D F)) → Type 0
  OfEach P passes = All (λ p. P (account p)) passes

  -- the counts of the volume are those that the last changes of its trace leave
  abbrev pub CountsAsTraced : (D → State) → List ℕ → Volume D F → Type 0
  CountsAsTraced state words v = (e : Disk) (slot : ℕ) → IsVolume e v.parts (state v.device)
      → slot < length words
      → word_at e slot ≡ word_after v.parts.trace.items slot (slice_index words slot)

  -- a fence failed since, where the volume is stopped
  abbrev pub StoppedSince : (D → State) → Volume D F → Volume D F → Type 0
  StoppedSince state u v = v.parts.stopped ≡ true
      → Rose (state u.device).faults (state v.device).faults

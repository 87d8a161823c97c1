-- What is told of a volume that threads share, and what holds of it whenever nobody has the turn.
use Rattle.std.specs.Prelude.{◌≡◌, ℕ, ◌<◌, ◌≤◌, Bool, true, false, ◌&&◌, ◌||◌, ◌==◌, is_none, List, [], ◌∷◌, length, slice_index, Option, Some, None}
use Rattle.std.specs.List.{list_all}
use Rattle.pm_device.specs.State.{State, Rose}
use Rattle.pm_layout.specs.Geometry.{slots}
use Rattle.dn_model.specs.Disk.{Disk}
use Rattle.dn_model.specs.Own.{Print}
use Rattle.dn_model.specs.Course.{Base}
use Rattle.dn_volume.specs.declared.flight.Flight.{Flight}
use Rattle.dn_volume.specs.declared.volume.Parts.{Parts}
use Rattle.dn_volume.specs.declared.volume.Volume.{Volume}
use Rattle.dn_volume.specs.Parties.{Flies, flight_of}
use Rattle.dn_volume.specs.Cleans.{none_may_clean}
use Rattle.dn_volume.specs.Events.{word_at, word_after}
use Rattle.dn_volume.specs.Agrees.{Agrees, IsVolume}
use Rattle.dn_volume.specs.Sound.{Sound}
use Rattle.count_board.specs.Told.{Told}
use Rattle.count_board.specs.declared.told.Hand.{Hand}
use Rattle.count_board.specs.declared.told.Hand.TheVariants.{Fly, Gone}
use Rattle.count_board.specs.declared.told.Mark.{Mark}
use Rattle.dn_shared.specs.declared.site.Site.{Site}
use Rattle.dn_shared.specs.Left.{has_left, count_left, all_left}

-- what a number has in hand
abbrev pub hand_in : Option Flight → Option Hand
hand_in None = None
hand_in (Some f) = Some (Fly f.op)

abbrev pub hand_of : Bool → Option Flight → Option Hand
hand_of true flight = Some Gone
hand_of false flight = hand_in flight

-- whether no operation is in flight, whether nothing waits to be released, and whether an event of the
-- daemon or of reclaim would find nothing to do
abbrev pub is_landed : Parts → Bool
is_landed b = list_all is_none b.flights.items

abbrev pub is_empty : {A : Type 0} → List A → Bool
is_empty [] = true
is_empty (x ∷ xs) = false

abbrev pub daemon_rests : Parts → Bool
daemon_rests b = is_none b.sharing && is_empty b.queue.items

abbrev pub none_released : Parts → Bool
none_released b = b.reclaiming.waiting == 0

abbrev pub reclaim_rests : Parts → Bool
reclaim_rests b = none_released b && is_none b.reclaiming.cleaning && none_may_clean b

-- every client has left, and none has an operation in flight
abbrev pub is_deserted : List Bool → Parts → Bool
is_deserted gone b = all_left gone && is_landed b

abbrev pub mark_of : List Bool → Parts → Mark
mark_of gone b = record {
  stopped = b.stopped;
  left = count_left gone;
  made = b.made;
  daemon_over = b.stopped || (is_deserted gone b && daemon_rests b);
  counts_over = b.stopped || (is_deserted gone b && none_released b);
  reclaim_idle = reclaim_rests b;
}

abbrev pub told_as : Parts → List Bool → Told
told_as b gone = record {
  entries = b.history.items;
  trace = b.trace.items;
  hand = λ who. hand_of (has_left gone who) (flight_of b who);
  mark = mark_of gone b;
}

abbrev pub told_of : {D F : Type 0} → Site D F → Told
told_of x = told_as x.volume.parts x.gone.items

-- What holds of a volume that began in a site: these clients have left since, and these were the
-- count words of its opening.
pub record IsKept {D F : Type 0} (state : D → State) (print : Print) (base : Site D F)
    (v : Volume D F) (gone : List Bool) (opening : List ℕ) : Type 0 where
  pub agrees : Agrees state v
  -- there are as many places as clients, and one that has left has nothing in flight
  pub clients : length gone ≡ length base.gone.items
  pub few : length gone ≤ 14
  pub others : (who : ℕ) (f : Flight) → Flies v.parts who f → who ≤ length gone
  pub landed : (who : ℕ) (f : Flight) → Flies v.parts who f → has_left gone who ≡ false
  pub faults : (state base.volume.device).faults ≤ (state v.device).faults
  pub rose : v.parts.stopped ≡ true
      → Rose (state base.volume.device).faults (state v.device).faults
  -- the count words of the opening, and those now
  pub opening_is : opening ≡ base.opening.items
  pub geometry : v.parts.geometry ≡ base.volume.parts.geometry
  pub long : length opening ≡ slots v.parts.geometry
  pub words : (e : Disk) (slot : ℕ) → IsVolume e v.parts (state v.device) → slot < length opening
      → word_at e slot ≡ word_after v.parts.trace.items slot (slice_index opening slot)
  -- where the volume of the opening kept to its history from some words, it does still
  pub keeps : (from : Base) → Sound state print from base.volume → Sound state print from v

-- what holds of a site x that began as base
abbrev pub IsShared : {D F : Type 0} → (D → State) → Print → (base x : Site D F) → Type 0
IsShared state print base x = IsKept state print base x.volume x.gone.items x.opening.items

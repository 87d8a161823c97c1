-- What one event does to a volume, as those who share it see it.
use Rattle.std.proofs.Common.{◌≡◌, ◌⊎◌, inl, inr, ⊎_elim, ℕ, ◌+◌, ◌≤◌, Bool, true, false, List, [], ◌∷◌, ◌++◌, refl, sym, ◌∙◌, arith}
use Rattle.std.proofs.Common.{append-nil, ne_eqb}
use Rattle.std.specs.Prelude.{Option, Some, None}
use Rattle.pm_device.specs.State.{State, Rose}
use Rattle.dn_model.specs.Disk.{Disk}
use Rattle.dn_model.specs.Own.{Print}
use Rattle.dn_model.specs.declared.op.Op.{Op}
use Rattle.dn_model.specs.declared.op.Reply.{Reply}
use Rattle.dn_model.specs.declared.op.Entry.{Entry}
use Rattle.dn_model.specs.declared.op.CountChange.{CountChange}
use Rattle.dn_volume.specs.declared.outcome.Outcome.{Outcome}
use Rattle.dn_volume.specs.declared.outcome.Outcome.TheVariants as told
use Rattle.dn_volume.specs.declared.volume.Parts.{Parts}
use Rattle.dn_volume.specs.declared.volume.Volume.{Volume}
use Rattle.dn_volume.specs.Parties.{flight_of}
use Rattle.dn_volume.proofs.Replaced.{others_same}
use Rattle.dn_volume.specs.Flights.{left_of}
use Rattle.dn_volume.specs.Agrees.{IsVolume}
use Rattle.dn_volume.specs.Events.{MovesOn, Answers, Breaks, Advances, Counts, word_at, word_after, answered_by}
use Rattle.dn_volume.specs.Begins.{IsUntouched, HasBegun, AnswersAtOnce}
use Rattle.dn_volume.specs.Works.{Works, Stand, daemon_stand, DaemonLowers, reclaim_stand, ReclaimLowers}
use Rattle.dn_core.specs.declared.event.Event.{Event}
use Rattle.dn_core.specs.declared.event.Event.TheVariants.{Begin, Advance, Daemon, Reclaim}
use Rattle.dn_core.specs.Steps.{Serves, Opens}
use Rattle.count_board.specs.Told.{entries_by}
use Rattle.dn_shared.specs.Sites.{hand_in}
use Rattle.dn_shared.proofs.Hands.{ops_hands, others_hands, flights_hands}

-- Entries and hands are those of the numbers that are meant alone, and the counts follow the changes.
pub record Goes {D F : Type 0} (state : D → State) (mine : ℕ → Type 0) (v v' : Volume D F) (d : Disk) : Type 0 where
  pub more : List Entry
  pub history : v'.parts.history.items ≡ v.parts.history.items ++ more
  pub own : (k : ℕ) → (mine k → ⊥) → entries_by k more ≡ []
  pub hands : (k : ℕ) → (mine k → ⊥) → hand_in (flight_of v'.parts k) ≡ hand_in (flight_of v.parts k)
  pub changes : List CountChange
  pub trace : v'.parts.trace.items ≡ v.parts.trace.items ++ changes
  pub made : (v'.parts.made ≡ v.parts.made) ⊎ (v'.parts.made ≡ v.parts.made + 1)
  pub geometry : v'.parts.geometry ≡ v.parts.geometry
  pub faults : (state v.device).faults ≤ (state v'.device).faults
  pub rose : v'.parts.stopped ≡ true → Rose (state v.device).faults (state v'.device).faults
  pub words : v'.parts.stopped ≡ false
      → (e : Disk) × IsVolume e v'.parts (state v'.device)
      × ((slot : ℕ) → word_at e slot ≡ word_after changes slot (word_at d slot))

-- whose entries and hands an event changes
abbrev pub Mine : Event → ℕ → Type 0
Mine (Begin who op) k = k ≡ who
Mine (Advance who) k = k ≡ who
Mine Daemon k = ⊥
Mine Reclaim k = ⊥

made_one : (b b' : Parts) → Counts b b' → (b'.made ≡ b.made) ⊎ (b'.made ≡ b.made + 1)
made_one b b' counts = ⊎_elim (λ one. inr one) (λ none. inl none.1) counts

one_by : (who k : ℕ) (entry : Entry) → entry.who ≡ who → (k ≡ who → ⊥) → entries_by k (entry ∷ []) ≡ []
one_by who k entry is ne = rw (ne_eqb entry.who k (λ e. ne (sym e ∙ is))) refl

clash : {A : Type 0} (b : Bool) → b ≡ false → b ≡ true → A
clash b low high = absurd (no b low high)
  where
    no : (x : Bool) → x ≡ false → x ≡ true → ⊥
    no x l h = cc

module _ {D F : Type 0} (state : D → State) (print : Print) (v v' : Volume D F) (d : Disk) (volume : IsVolume d v.parts (state v.device)) where
  by_moves : (mine : ℕ → Type 0) (who : ℕ) → MovesOn state print who v v' d → Goes state mine v v' d
  by_moves mine who m = record {
    more = [];
    history = m.history ∙ sym (append-nil v.parts.history.items);
    own = λ k ne. refl;
    hands = λ k ne. ops_hands v.parts v'.parts m.ops k;
    changes = m.moves.traces.more;
    trace = m.moves.traces.trace;
    made = made_one v.parts v'.parts m.moves.counts;
    geometry = m.moves.geometry;
    faults = m.moves.faults;
    rose = λ is. clash v'.parts.stopped m.moves.volume.running is;
    words = λ run. (m.after, m.moves.volume, m.moves.traces.words);
  }

  by_breaks : (mine : ℕ → Type 0) (who : ℕ) (answers : Option Op) → Breaks state print who answers v v' d → Goes state mine v v' d
  by_breaks mine who answers b = record {
    more = [];
    history = b.history ∙ sym (append-nil v.parts.history.items);
    own = λ k ne. refl;
    hands = λ k ne. ops_hands v.parts v'.parts b.ops k;
    changes = b.trace.more;
    trace = b.trace.trace;
    made = made_one v.parts v'.parts b.counts;
    geometry = b.geometry;
    faults = b.faults;
    rose = λ is. b.rose;
    words = λ run. clash v'.parts.stopped run b.stopped.stopped;
  }

  by_untouched : (mine : ℕ → Type 0) → IsUntouched state v v' d → Goes state mine v v' d
  by_untouched mine un = record {
    more = [];
    history = un.history ∙ sym (append-nil v.parts.history.items);
    own = λ k ne. refl;
    hands = λ k ne. flights_hands v.parts v'.parts un.same.flights k;
    changes = [];
    trace = un.same.work.trace ∙ sym (append-nil v.parts.trace.items);
    made = inl un.made;
    geometry = un.same.work.geometry;
    faults = let same = un.device.faults in omega (arith, same);
    rose = λ is. clash v'.parts.stopped un.volume.running is;
    words = λ run. (d, un.volume, λ slot. refl);
  }

  by_begun : (who : ℕ) (op : Op) (left : ℕ) → HasBegun state who op left v v' d → Goes state (λ k. k ≡ who) v v' d
  by_begun who op left b = record {
    more = [];
    history = b.history ∙ sym (append-nil v.parts.history.items);
    own = λ k ne. refl;
    hands = λ k ne. others_hands who v.parts v'.parts
        (others_same who b.opens.client None (Some b.flight) v.parts v'.parts b.opens.replaces) k ne;
    changes = [];
    trace = b.opens.same.work.trace ∙ sym (append-nil v.parts.trace.items);
    made = made_one v.parts v'.parts b.counts;
    geometry = b.opens.same.work.geometry;
    faults = let same = b.device.faults in omega (arith, same);
    rose = λ is. clash v'.parts.stopped b.volume.running is;
    words = λ run. (d, b.volume, λ slot. refl);
  }

  by_at_once : (who : ℕ) (op : Op) (reply : Reply) → AnswersAtOnce state who op reply v v' d → Goes state (λ k. k ≡ who) v v' d
  by_at_once who op reply a = record {
    more = a.entry ∷ [];
    history = a.history;
    own = λ k ne. one_by who k a.entry a.who_is ne;
    hands = λ k ne. flights_hands v.parts v'.parts a.same.flights k;
    changes = [];
    trace = a.same.work.trace ∙ sym (append-nil v.parts.trace.items);
    made = made_one v.parts v'.parts a.counts;
    geometry = a.same.work.geometry;
    faults = let same = a.device.faults in omega (arith, same);
    rose = λ is. clash v'.parts.stopped a.volume.running is;
    words = λ run. (d, a.volume, λ slot. refl);
  }

  by_answers : (who : ℕ) (op : Op) (reply : Reply) → Answers state print who op reply v v' d → Goes state (λ k. k ≡ who) v v' d
  by_answers who op reply a = record {
    more = a.entry ∷ [];
    history = a.history;
    own = λ k ne. one_by who k a.entry a.who_is ne;
    hands = λ k ne. others_hands who v.parts v'.parts a.moves.others k ne;
    changes = a.moves.traces.more;
    trace = a.moves.traces.trace;
    made = made_one v.parts v'.parts a.moves.counts;
    geometry = a.moves.geometry;
    faults = a.moves.faults;
    rose = λ is. clash v'.parts.stopped a.moves.volume.running is;
    words = λ run. (a.after, a.moves.volume, a.moves.traces.words);
  }

  opens_go : (who : ℕ) (op : Op) (outcome : Outcome) → Opens state print who op v v' d outcome → Goes state (λ k. k ≡ who) v v' d
  opens_go who op (told.Running left) is = by_begun who op left is
  opens_go who op (told.Done reply) is = by_at_once who op reply is
  opens_go who op (told.Busy holder) is = by_untouched (λ k. k ≡ who) is.0
  opens_go who op (told.Released left) is = by_moves (λ k. k ≡ who) 16 is.moves
  opens_go who op told.Idle is = absurd is
  opens_go who op told.NotYours is = absurd is
  opens_go who op told.NoMemory is = by_untouched (λ k. k ≡ who) is.0
  opens_go who op told.Stopped is = by_breaks (λ k. k ≡ who) 16 None is.breaks

  advances_go : (who : ℕ) (op : Op) (left : ℕ) (outcome : Outcome) → Advances state print who op left v v' d outcome
      → Goes state (λ k. k ≡ who) v v' d
  advances_go who op left (told.Running n) is = by_moves (λ k. k ≡ who) who is.0
  advances_go who op left (told.Done reply) is = by_answers who op reply is.0
  advances_go who op left (told.Busy holder) is = absurd is
  advances_go who op left (told.Released waiting) is = absurd is
  advances_go who op left told.Idle is = absurd is
  advances_go who op left told.NotYours is = absurd is
  advances_go who op left told.NoMemory is = absurd is
  advances_go who op left told.Stopped is = by_breaks (λ k. k ≡ who) who (answered_by left op) is

  works_go : (who : ℕ) (stand : Stand) (lowers : Parts → Parts → ℕ → Type 0) (outcome : Outcome)
      → Works state print who stand lowers v v' d outcome → Goes state (λ k. ⊥) v v' d
  works_go who stand lowers (told.Running left) is = by_moves (λ k. ⊥) who is.0
  works_go who stand lowers (told.Done reply) is = absurd is
  works_go who stand lowers (told.Busy holder) is = by_untouched (λ k. ⊥) is.0
  works_go who stand lowers (told.Released waiting) is = absurd is
  works_go who stand lowers told.Idle is = by_untouched (λ k. ⊥) is.0
  works_go who stand lowers told.NotYours is = absurd is
  works_go who stand lowers told.NoMemory is = by_untouched (λ k. ⊥) is.0
  works_go who stand lowers told.Stopped is = by_breaks (λ k. ⊥) who None is.0

  pub serves_go : (event : Event) (outcome : Outcome) → Serves state print event v v' d outcome → Goes state (Mine event) v v' d
  serves_go (Begin who op) outcome is = opens_go who op outcome is.1
  serves_go (Advance who) outcome is = advances_go who is.flight.op (left_of is.flight) outcome is.advances
  serves_go Daemon outcome is = works_go 15 (daemon_stand d v.parts) DaemonLowers outcome is
  serves_go Reclaim outcome is = works_go 16 (reclaim_stand v.parts) ReclaimLowers outcome is

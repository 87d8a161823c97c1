-- The last advance of an operation on names answers it, or breaks off where a fence failed.
use Rattle.std.proofs.Common.{◌≡◌, inl, ℕ, ◌-◌, ◌*◌, ◌<◌, Bool, List, [], length, refl, sym, ◌∙◌, ap, subst, Some}
use Rattle.std.specs.Prelude.{Contains, All, if◌then◌else◌}
use Rattle.std.proofs.lemmas.List.{append-nil}
use Rattle.pm_device.specs.State.{State, Agree}
use Rattle.pm_device.specs.Settled.{LeavesOnly}
use Rattle.pm_device.specs.Reading.{Stands, IsReady}
use Rattle.pm_device.proofs.Only.{stores_only-weaken}
use Rattle.pm_layout.specs.declared.Geometry.{Geometry}
use Rattle.pm_layout.specs.Geometry.{IsAccepted, slots}
use Rattle.name_journal.specs.declared.change.Change.{Change as Word}
use Rattle.name_journal.specs.Changes.{IsTouched}
use Rattle.name_journal.specs.AllOrNone.{AllOrNone}
use Rattle.dn_model.specs.Table.{Row}
use Rattle.dn_model.specs.Disk.{Disk, DiskSays}
use Rattle.dn_model.specs.Files.{files, IsSameFiles}
use Rattle.dn_model.specs.Apply.{IsGranted, after_op}
use Rattle.dn_model.specs.Own.{Print, page_bytes}
use Rattle.dn_model.specs.declared.op.Op.{Op}
use Rattle.dn_model.specs.declared.op.CountChange.{CountChange}
use Rattle.law_names.specs.NameChange.{NameChange as DiskChange, MayChange, FreshNames, name_changes, names_changed}
use Rattle.law_names.proofs.Changed.{same_rows}
use Rattle.law_names.proofs.ChangedOwn.{live_was, own_kept}
use Rattle.law_names.proofs.Commits.{names_all_or_none, names_suffice}
use Rattle.law_names.proofs.AllWords.{all_or_none_images}
use Rattle.dn_volume.specs.declared.flight.Flight.{Flight}
use Rattle.dn_volume.specs.declared.flight.NameChange.{NameChange}
use Rattle.dn_volume.specs.declared.volume.Parts.{Parts}
use Rattle.dn_volume.specs.Agrees.{HasHead}
use Rattle.dn_volume.specs.Flights.{left_by, left_of}
use Rattle.dn_volume.specs.Accounts.{AccountsFor, KeepsAlone}
use Rattle.dn_volume.specs.Events.{word_in, Traces, IsBetween}
use Rattle.dn_volume.specs.Rely.{IsWordOf}
use Rattle.dn_volume.proofs.Between.{old_or_new}
use Rattle.dn_volume.proofs.Heads.{head_after}
use Rattle.dn_volume.proofs.Kept.{ops_at}
use Rattle.name_ops.specs.Landing.{CommitsAll, FailsToCommit, IsToCommit, NamesAnswer, NamesBreak}
use Rattle.name_ops.proofs.Landed.{same_others}
use Rattle.name_ops.proofs.NameFlight.{flight_of, fresh_is, unused_fresh, granted, grants_done, files_then}
use Rattle.name_ops.proofs.LandedChange.{can, ready, words, touched_words, landed}

-- a change of names leaves all pages' bytes alone
module _ (print : Print) (d : Disk) (change : DiskChange) (may : MayChange d change) where
  abbrev e : Disk
  e = names_changed d change

  same_bytes : (page : ℕ) → page_bytes e page ≡ page_bytes d page
  unfolding page_bytes names_changed
  same_bytes page = refl

  pub alone_then : KeepsAlone d e
  alone_then ino idx m place alone = record {
    mapping = m;
    place = live_was d change may ino idx m place;
    alone = alone;
    page_is = refl;
    bytes_are = same_bytes m.block;
  }

  pub accounts : AccountsFor print d e
  accounts = record {
    alone = λ ino idx m place alone. inl (alone_then ino idx m place alone);
    row_pages = λ row has. inl (record {
      was = row;
      there = subst (λ (rs : List Row). Contains rs row) (same_rows d change) has;
      page_is = refl;
      bytes_are = same_bytes row.page;
    });
  }

  pub traces : (b b' : Parts) → b'.trace ≡ b.trace → Traces d e b b'
  traces b b' same = record {
    more = [];
    trace = ap (λ xs. xs.items) same ∙ sym (append-nil b.trace.items);
    words = λ slot. ap (λ (rs : List Row). word_in rs slot) (same_rows d change);
  }

-- while the words change, each image has the files of before or of after
between : (print : Print) (d : Disk) (change : DiskChange) → MayChange d change → (who : ℕ) (s t : State) → Agree s.now s.past
    → length s.now ≡ 512 * d.geometry.pages → Stands (DiskSays d) s → IsReady who (FreshNames d change) s
    → LeavesOnly s t (AllOrNone d.geometry.inodes who (name_changes d change) s) → LeavesOnly s t (IsBetween print d (names_changed d change))
between print d change can who s t agree long stands set images = old_or_new print d (names_changed d change) s t (own_kept d change can print)
    (all_or_none_images d (names_changed d change) (name_changes d change) (names_all_or_none d change can) who s t agree long stands
    (names_suffice d change can who s set) images)

-- one event is left of it
one_left : (b : Parts) (who : ℕ) (f : Flight) (c : NameChange) → IsToCommit b who f c → 1 ≡ left_of f
one_left b who f c to = sym (ap (left_by f) to.change_is ∙ ap (λ (x : Bool). if x then 1 else 2) to.prepared)

some_op : (a b : Op) → Some a ≡ Some b → a ≡ b
some_op a b e = cc

pub names_answer : {D F : Type 0} (state : D → State) → NamesAnswer D F state
names_answer state print v v' d who f c volume agree to commit lands adds counts =
    let flight = flight_of d v.parts (state v.device) who f c volume to.flies to.change_is in
    let can = can d v.parts v'.parts (state v.device) (state v'.device) who f c volume agree to flight in
    let set = ready d v.parts v'.parts (state v.device) (state v'.device) who f c volume agree to flight in
    let same = words d v.parts v'.parts (state v.device) (state v'.device) who f c volume agree to flight in
    let commit' = subst (λ (xs : List Word). CommitsAll d.geometry.inodes who xs (state v.device) (state v'.device)) (sym same) commit in
    record {
      after = names_changed d flight.change;
      moves = record {
        volume = landed d v.parts v'.parts (state v.device) (state v'.device) who f c volume agree to flight commit' lands;
        images = between print d flight.change can who (state v.device) (state v'.device) agree volume.fast.long volume.fast.stands set
            commit'.images;
        own = own_kept d flight.change can print;
        accounts = λ own. accounts print d flight.change can;
        alone = λ is. alone_then print d flight.change can;
        traces = traces print d flight.change can v.parts v'.parts lands.lands.trace;
        others = same_others d v.parts v'.parts (state v.device) (state v'.device) who f c flight.change volume can to.flies to.change_is
            (fresh_is d v.parts (state v.device) who f c volume to.flies to.change_is flight) lands.lands;
        counts = counts;
        geometry = lands.lands.lands.geometry;
        faults = commit.faults;
      };
      entry = adds.entry;
      history = adds.history;
      who_is = adds.who_is;
      op_is = adds.op_is;
      reply_is = adds.reply_is;
      done = refl;
      granted = granted d v.parts (state v.device) who f c volume to.flies to.change_is flight;
      grants = grants_done d v.parts (state v.device) who f c volume to.flies to.change_is flight;
      files_after = λ own. files_then d v.parts (state v.device) who f c volume to.flies to.change_is flight;
      flew = record { flight = f; flies = to.flies; op_is = refl; left_is = one_left v.parts who f c to };
      replaces = lands.lands.lands.replaces;
    }

pub names_break : {D F : Type 0} (state : D → State) → NamesBreak D F state
names_break state print v v' d who f c volume agree to fails stops counts =
    let flight = flight_of d v.parts (state v.device) who f c volume to.flies to.change_is in
    let can = can d v.parts v'.parts (state v.device) (state v'.device) who f c volume agree to flight in
    let set = ready d v.parts v'.parts (state v.device) (state v'.device) who f c volume agree to flight in
    let same = words d v.parts v'.parts (state v.device) (state v'.device) who f c volume agree to flight in
    let fails' = subst (λ (xs : List Word). FailsToCommit d.geometry.inodes who xs (state v.device) (state v'.device)) (sym same) fails in
    let touched = touched_words d v.parts v'.parts (state v.device) (state v'.device) who f c volume agree to flight in
    record {
      stopped = record {
        stopped = stops.stopped;
        accepted = subst IsAccepted (volume.fast.geometry ∙ sym stops.geometry) volume.fast.valid.accepted;
        long = fails.only.words ∙ volume.fast.long ∙ ap (λ (g : Geometry). 512 * g.pages) (volume.fast.geometry ∙ sym stops.geometry);
        head = subst (λ (g : Geometry). HasHead g (state v'.device).now) (sym stops.geometry)
            (head_after d f.held.items f.fresh.items v.parts.geometry (state v.device) (state v'.device) volume.fast
            (unused_fresh d v.parts (state v.device) who f c volume to.flies to.change_is flight)
            (stores_only-weaken (IsTouched (name_changes d flight.change)) (IsWordOf f.held.items f.fresh.items d) (state v.device) (state v'.device)
            touched fails'.only));
        trace = subst (λ (g : Geometry). All (λ (change : CountChange). change.slot < slots g) v'.parts.trace.items) (sym stops.geometry)
            (subst (λ tr. All (λ (change : CountChange). change.slot < slots v.parts.geometry) tr.items) (sym stops.trace) volume.trace);
      };
      after = names_changed d flight.change;
      images = between print d flight.change can who (state v.device) (state v'.device) agree volume.fast.long volume.fast.stands set fails'.images;
      rose = fails.rose;
      quiet = λ none. cc;
      ops = ops_at v.parts v'.parts stops.flights;
      others = record { flights = λ q some ne. stops.flights (q - 1); sharing = λ ne. stops.sharing; cleaning = λ ne. stops.cleaning };
      trace = record { more = []; trace = ap (λ tr. tr.items) stops.trace ∙ sym (append-nil v.parts.trace.items) };
      geometry = stops.geometry;
      answering = λ o is_o own. (
        subst (IsGranted (files d)) (some_op f.op o is_o) (granted d v.parts (state v.device) who f c volume to.flies to.change_is flight),
        subst (λ (x : Op). IsSameFiles (files (names_changed d flight.change)) (after_op (files d) x)) (some_op f.op o is_o)
            (files_then d v.parts (state v.device) who f c volume to.flies to.change_is flight),
      );
      answered = λ o is_o. record {
        flight = f;
        flies = record { client = to.flies.client; is = stops.flights (who - 1) ∙ to.flies.is };
        op_is = some_op f.op o is_o;
        left_is = one_left v.parts who f c to;
      };
      history = ap (λ h. h.items) stops.history;
      counts = counts;
      faults = fails.faults;
    }

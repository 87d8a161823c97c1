-- The last event of a write or a cut.
use Rattle.std.proofs.Common.{◌≡◌, ◌≢◌, ⊎_elim, ℕ, ◌+◌, ◌-◌, ◌*◌, ◌<◌, ◌≤◌, true, List, [], ◌∷◌, ◌++◌, length, refl, sym, ◌∙◌, ap, subst, arith}
use Rattle.std.proofs.lemmas.Bool.{cases_eq}
use Rattle.std.proofs.lemmas.List.{append-nil}
use Rattle.std.specs.Prelude.{slice_get, Some, None, All, Contains}
use Rattle.pm_device.specs.State.{State, Rose}
use Rattle.pm_device.specs.Settled.{LeavesOnly, SettlesAll}
use Rattle.pm_layout.specs.declared.Geometry.{Geometry}
use Rattle.pm_layout.specs.Geometry.{IsAccepted, slots}
use Rattle.dn_model.specs.Log.{count, tail_at}
use Rattle.dn_model.specs.Table.{Row}
use Rattle.dn_model.specs.Disk.{Disk, rows}
use Rattle.dn_model.specs.Files.{files, IsSameFiles}
use Rattle.dn_model.specs.Own.{Print}
use Rattle.dn_model.specs.Apply.{IsGranted, Grants, after_op}
use Rattle.dn_model.specs.declared.op.Op.{Op}
use Rattle.dn_model.specs.declared.op.Op.TheVariants.{Write}
use Rattle.dn_model.specs.declared.op.Reply.TheVariants.{Done}
use Rattle.law_write.specs.Writing.{Writes}
use Rattle.law_write.proofs.WriteValid.{rows_kept}
use Rattle.dn_volume.specs.declared.flight.Flight.{Flight}
use Rattle.dn_volume.specs.declared.flight.Change.TheVariants.{Data}
use Rattle.dn_volume.specs.declared.flight.DataChange.{DataChange}
use Rattle.dn_model.specs.declared.op.CountChange.{CountChange}
use Rattle.dn_volume.specs.declared.volume.InodeState.{InodeState}
use Rattle.dn_volume.specs.declared.volume.Parts.{Parts}
use Rattle.dn_volume.specs.declared.volume.Volume.{Volume}
use Rattle.dn_volume.specs.Parties.{Flies, for_client, flight_at, taken_by}
use Rattle.dn_volume.specs.Flights.{IsDataFlight, left_by, left_of}
use Rattle.dn_volume.specs.Events.{IsBetween, word_in, Counts, Answers, Breaks}
use Rattle.dn_volume.specs.Agrees.{IsVolume, HasHead}
use Rattle.file_commit.specs.Append.{AppendsBetween, AppendsNew, AppendsThere, IsReadyToAppend}
use Rattle.dn_volume.specs.Replaces.{Replaces}
use Rattle.dn_volume.proofs.Replaced.{others_same}
use Rattle.file_ops.specs.Ends.{ChangesInode, Ends}
use Rattle.file_ops.specs.Giving.{Gives, IsUnsharedAmong}
use Rattle.file_ops.specs.Ending.{MapsAt, FinishesBy, FinishesParts}
use Rattle.law_write.specs.Events.{IsUnused}
use Rattle.dn_volume.proofs.Heads.{head_after}
use Rattle.file_ops.proofs.Frame.{leaves_rest}
use Rattle.dn_volume.proofs.Kept.{ops_at}
use Rattle.dn_volume.proofs.Between.{old_or_new}
use Rattle.file_ops.proofs.Accounted.{write_accounts, alone_was}
use Rattle.file_ops.proofs.After.{volume_after}
use Rattle.file_ops.proofs.DiskAfter.{after}
use Rattle.file_ops.proofs.Ended.{Decides, IsOut, all_ends, write_decides, write_inode}

module _ {D F : Type 0} (state : D → State) (print : Print) (v v' : Volume D F) (d : Disk) (who : ℕ) (f : Flight) (c : DataChange)
    (is_v : IsVolume d v.parts (state v.device)) (flies : Flies v.parts who f) (kind : f.change ≡ Data c)
    (is : IsDataFlight d who f c (state v.device)) (e : Disk) (from n : ℕ) (decides : Decides d (state v.device) who f c e from n)
    (between_them : AppendsBetween v.parts.geometry who f.ino f.fresh.items f.slots.items (state v.device) (state v'.device))
    (there : AppendsThere v.parts.geometry who f.ino f.fresh.items f.slots.items (state v.device) (state v'.device))
    (faults : (state v.device).faults ≤ (state v'.device).faults) where
  abbrev w : Writes f.ino d e
  w = decides.changes.event

  ready_here : IsReadyToAppend v.parts.geometry who f.ino f.fresh.items f.slots.items d e w (state v.device)
  ready_here = subst (λ (g : Geometry). IsReadyToAppend g who f.ino f.fresh.items f.slots.items d e w (state v.device)) is_v.fast.geometry
      decides.ready

  images : LeavesOnly (state v.device) (state v'.device) (IsBetween print d e)
  images = old_or_new print d e (state v.device) (state v'.device) (decides.own print) (between_them d e w ready_here)

  -- one event is left of it
  last_left : 1 ≡ left_of f
  last_left = one (length c.blocks.items) c.filled (length f.rows.items) f.raised decides.all_filled decides.all_raised ∙ ap (left_by f) (sym kind)
    where
      one : (blocks filled rows raised : ℕ) → filled ≡ blocks → raised ≡ rows → 1 ≡ (blocks - filled) + (rows - raised) + 1
      one blocks filled rows raised full all = omega (arith, full, all)

  -- it failed
  pub breaks_by : (op : Op) → f.op ≡ op → v'.parts.stopped ≡ true → v'.parts.geometry ≡ v.parts.geometry → v'.parts.trace ≡ v.parts.trace
      → v'.parts.sharing ≡ v.parts.sharing → v'.parts.reclaiming.cleaning ≡ v.parts.reclaiming.cleaning
      → v'.parts.history ≡ v.parts.history → Counts v.parts v'.parts
      → Rose (state v.device).faults (state v'.device).faults
      → flight_at v'.parts.flights.items (who - 1) ≡ Some f
      → ((k : ℕ) → k ≢ who - 1 → flight_at v'.parts.flights.items k ≡ flight_at v.parts.flights.items k) → Breaks state print who (Some op) v v' d
  breaks_by op same stopped geometry trace sharing cleaning history counts rose back others = record {
    stopped = record {
      stopped = stopped;
      accepted = subst IsAccepted (is_v.fast.geometry ∙ sym geometry) is_v.fast.valid.accepted;
      long = (there d e w ready_here).only.words ∙ is_v.fast.long ∙ ap (λ (g : Geometry). 512 * g.pages) (is_v.fast.geometry ∙ sym geometry);
      head = subst (λ (g : Geometry). HasHead g (state v'.device).now) (sym geometry)
          (head_after d (f.ino ∷ []) (taken_by f) v.parts.geometry (state v.device) (state v'.device) is_v.fast taken_unused
          (leaves_rest d e f c from n kind decides.changes who (state v.device)
          (state v'.device) (there d e w ready_here)).only);
      trace = subst (λ (g : Geometry). All (λ (change : CountChange). change.slot < slots g) v'.parts.trace.items) (sym geometry)
          (subst (λ tr. All (λ (change : CountChange). change.slot < slots v.parts.geometry) tr.items) (sym trace) is_v.trace);
    };
    after = e;
    images = images;
    rose = rose;
    quiet = λ none. cc;
    ops = ops_at v.parts v'.parts all_same;
    others = record { flights = λ q some ne. all_same (q - 1); sharing = λ ne. sharing; cleaning = λ ne. cleaning };
    trace = record { more = []; trace = ap (λ tr. tr.items) trace ∙ sym (append-nil v.parts.trace.items) };
    geometry = geometry;
    answering = λ o is_o own.
        let whole : f.op ≡ o = same ∙ some_op op o is_o in (
          subst (IsGranted (files d)) whole decides.granted,
          subst (λ (x : Op). IsSameFiles (files e) (after_op (files d) x)) whole (decides.files_after print own),
        );
    answered = λ o is_o. record {
      flight = f;
      flies = record { client = flies.client; is = back };
      op_is = same ∙ some_op op o is_o;
      left_is = last_left;
    };
    history = ap (λ h. h.items) history;
    counts = counts;
    faults = faults;
  }
    where
      taken_unused : (page : ℕ) → Contains (taken_by f) page → IsUnused d page
      taken_unused page has = is_v.space.unused page (λ none.
          let his = is_v.space.takes who page (for_client f flies has) in let some = flies.client in omega (arith, his, none, some))

      some_op : (a b : Op) → Some a ≡ Some b → a ≡ b
      some_op a b e = cc

      all_same : (k : ℕ) → flight_at v'.parts.flights.items k ≡ flight_at v.parts.flights.items k
      all_same k = ⊎_elim (λ here. subst (λ (j : ℕ). flight_at v'.parts.flights.items j ≡ flight_at v.parts.flights.items j) (sym here)
          (back ∙ sym flies.is)) (λ away. others k away) (cases_eq k (who - 1))

  -- it is done
  module _ (stands : AppendsNew v.parts.geometry who f.ino f.fresh.items f.slots.items (state v.device) (state v'.device))
      (settles : SettlesAll who (state v.device) (state v'.device)) (spare : (state v.device).spare ≤ (state v'.device).spare + 9
      * (length f.slots.items + length f.fresh.items) + 4)
      (node : InodeState) (node_is : slice_get v.parts.inodes.items f.ino ≡ Some node)
      (mid : Parts) (tail : ℕ) (tail_is : tail ≡ tail_at (d.inode f.ino).log.pages (count (d.inode f.ino).log)) (out : IsOut v.parts mid)
      (ended : Replaces (who - 1) (Some f) None v.parts mid)
      (gives : Gives (IsUnsharedAmong d node.map.map from n) v.parts.free mid.free)
      (inodes_end : List InodeState → List InodeState → Type 0) (finish : FinishesBy inodes_end who tail f c mid v'.parts)
      (inode : ChangesInode e f.ino c.size mid v'.parts) where
    ends : Ends d e who f c from n v.parts v'.parts
    ends = all_ends d v.parts (state v.device) who f c is_v flies kind is e from n decides node node_is mid v'.parts tail tail_is out ended gives
        inodes_end finish inode

    pub volume_by : IsVolume e v'.parts (state v'.device)
    volume_by = volume_after d e v.parts v'.parts (state v.device) (state v'.device) who f c from n is_v flies kind is decides.all_raised
        decides.changes ends (stands d e w ready_here)
        (there d e w ready_here) settles (omega (arith, spare))

    rows_same : rows e ≡ rows d
    rows_same = rows_kept f.ino d e w

    pub answers_by : (op : Op) → f.op ≡ op → Counts v.parts v'.parts → Answers state print who op Done v v' d
    answers_by op same counts = record {
      after = e;
      moves = record {
        volume = volume_by;
        images = images;
        own = decides.own print;
        accounts = λ own. write_accounts f.ino d e w decides.changes.well print;
        alone = λ by_reclaim. alone_was f.ino d e w decides.changes.well;
        traces = record {
          more = [];
          trace = ap (λ tr. tr.items) ends.keeps.trace ∙ sym (append-nil v.parts.trace.items);
          words = λ slot. ap (λ (rs : List Row). word_in rs slot) rows_same;
        };
        others = others_same who flies.client (Some f) None v.parts v'.parts ends.flight;
        counts = counts;
        geometry = ends.keeps.geometry;
        faults = faults;
      };
      entry = record { who = who; op = f.op; reply = Done };
      history = finish.history ∙ ap (λ h. h.items ++ record { who = who; op = f.op; reply = Done } ∷ []) out.history;
      who_is = refl;
      op_is = same;
      reply_is = refl;
      done = refl;
      granted = subst (IsGranted (files d)) same decides.granted;
      grants = subst (λ (o : Op). Grants (files d) o Done) same decides.grants;
      files_after = λ own. subst (λ (x : Op). IsSameFiles (files e) (after_op (files d) x)) same (decides.files_after print own);
      flew = record { flight = f; flies = flies; op_is = same; left_is = last_left };
      replaces = ends.flight;
    }

-- the last event of a write
module _ {D F : Type 0} (state : D → State) (print : Print) (v v' : Volume D F) (d : Disk) (who : ℕ) (f : Flight) (c : DataChange)
    (is_v : IsVolume d v.parts (state v.device)) (flies : Flies v.parts who f) (kind : f.change ≡ Data c)
    (is : IsDataFlight d who f c (state v.device)) (name : List ℕ) (at : ℕ) (text : List ℕ) (op_is : f.op ≡ Write name at text)
    (all_filled : c.filled ≡ length c.blocks.items) (all_raised : f.raised ≡ length f.rows.items)
    (between_them : AppendsBetween v.parts.geometry who f.ino f.fresh.items f.slots.items (state v.device) (state v'.device))
    (there : AppendsThere v.parts.geometry who f.ino f.fresh.items f.slots.items (state v.device) (state v'.device))
    (faults : (state v.device).faults ≤ (state v'.device).faults) where
  abbrev e : Disk
  e = after d v.parts (state v.device) who f c is_v flies kind is name at text op_is all_filled all_raised

  abbrev decides : Decides d (state v.device) who f c e c.first (length c.blocks.items)
  decides = write_decides d v.parts (state v.device) who f c is_v flies kind is name at text op_is all_filled all_raised

  pub breaks : (op : Op) → f.op ≡ op → v'.parts.stopped ≡ true → v'.parts.geometry ≡ v.parts.geometry → v'.parts.trace ≡ v.parts.trace
      → v'.parts.sharing ≡ v.parts.sharing → v'.parts.reclaiming.cleaning ≡ v.parts.reclaiming.cleaning
      → v'.parts.history ≡ v.parts.history → Counts v.parts v'.parts
      → Rose (state v.device).faults (state v'.device).faults
      → flight_at v'.parts.flights.items (who - 1) ≡ Some f
      → ((k : ℕ) → k ≢ who - 1 → flight_at v'.parts.flights.items k ≡ flight_at v.parts.flights.items k) → Breaks state print who (Some op) v v' d
  breaks = breaks_by state print v v' d who f c is_v flies kind is e c.first (length c.blocks.items) decides between_them there faults

  module _ (stands : AppendsNew v.parts.geometry who f.ino f.fresh.items f.slots.items (state v.device) (state v'.device))
      (settles : SettlesAll who (state v.device) (state v'.device)) (spare : (state v.device).spare ≤ (state v'.device).spare + 9
      * (length f.slots.items + length f.fresh.items) + 4)
      (node : InodeState) (node_is : slice_get v.parts.inodes.items f.ino ≡ Some node)
      (mid : Parts) (tail : ℕ) (tail_is : tail ≡ tail_at (d.inode f.ino).log.pages (count (d.inode f.ino).log)) (out : IsOut v.parts mid)
      (ended : Replaces (who - 1) (Some f) None v.parts mid)
      (gives : Gives (IsUnsharedAmong d node.map.map c.first (length c.blocks.items)) v.parts.free mid.free)
      (finish : FinishesParts who tail f c mid v'.parts) where
    abbrev inodes_end : List InodeState → List InodeState → Type 0
    inodes_end = MapsAt f.ino c.size tail f.fresh.items c.runs.items

    inode : ChangesInode e f.ino c.size mid v'.parts
    inode = write_inode d v.parts (state v.device) who f c is_v flies kind is name at text op_is all_filled all_raised mid v'.parts tail tail_is
        out.inodes finish.inodes

    pub volume_now : IsVolume e v'.parts (state v'.device)
    volume_now = volume_by state print v v' d who f c is_v flies kind is e c.first (length c.blocks.items) decides between_them there faults stands
        settles spare node node_is mid tail tail_is out ended gives inodes_end finish inode

    pub answers : (op : Op) → f.op ≡ op → Counts v.parts v'.parts → Answers state print who op Done v v' d
    answers = answers_by state print v v' d who f c is_v flies kind is e c.first (length c.blocks.items) decides between_them there faults stands
        settles spare node node_is mid tail tail_is out ended gives inodes_end finish inode

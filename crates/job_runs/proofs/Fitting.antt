-- A run that is as far as a volume says, an event later.
use Rattle.std.proofs.Common.{◌≡◌, ◌≢◌, inl, inr, ℕ, zero, suc, ◌-◌, ◌<◌, ◌≤◌, Bool, true}
use Rattle.std.proofs.Common.{false, List, [], ◌∷◌, ◌++◌, length, refl, sym, ap, subst, ◌∙◌, arith}
use Rattle.std.specs.Prelude.{Option, Some, None, IsSome, slice_get, if◌then◌else◌}
use Rattle.std.proofs.lemmas.Bool.{cases_eq, ne_eqb, eq-eqb}
use Rattle.std.proofs.lemmas.Option.{none-some, same_Some, slice_get_within}
use Rattle.dn_model.specs.declared.op.Op.{Op}
use Rattle.dn_model.specs.declared.op.Entry.{Entry}
use Rattle.dn_model.specs.declared.op.Reply.{Reply}
use Rattle.dn_volume.specs.declared.flight.Flight.{Flight}
use Rattle.dn_volume.specs.declared.flight.Change.{Change}
use Rattle.dn_volume.specs.declared.flight.Change.TheVariants.{Data, Names}
use Rattle.dn_volume.specs.declared.volume.Parts.{Parts}
use Rattle.dn_volume.specs.Parties.{Flies, KeepsOps, SameOthers, opened, flight_at, flight_of}
use Rattle.dn_volume.specs.Flights.{left_by, left_of}
use Rattle.dn_volume.specs.declared.background.Cleaning.{Cleaning}
use Rattle.dn_volume.specs.Works.{sharing_events}
use Rattle.job_runs.specs.Turns.{Played, script_of, next_op, set_left, entry_for}
use Rattle.job_runs.specs.Playing.{Fits, FlyNext, flight_left}
use Rattle.job_runs.proofs.Turned.{other_entries}

-- an operation in flight has an event left
one_left : (f : Flight) (c : Change) → 1 ≤ left_by f c
one_left f (Data c) = omega arith
one_left f (Names c) = by c.prepared
  where
    by : (t : Bool) → 1 ≤ (if t then 1 else 2)
    by true = omega arith
    by false = omega arith

pub some_left : (f : Flight) → 1 ≤ left_of f
some_left f = one_left f f.change

pub none_left : (o : Option Flight) → flight_left o ≡ 0 → o ≡ None
none_left None is = refl
none_left (Some f) is = absurd (let some = some_left f in omega (arith, is, some))

pub flight_there : (o : Option Flight) → 0 < flight_left o → (f : Flight) × (o ≡ Some f)
flight_there None some = absurd (omega (arith, some))
flight_there (Some f) some = (f, refl)

-- as a number of a client, and as a place
pub at_client : (b : Parts) (who : ℕ) → 1 ≤ who → flight_of b who ≡ flight_at b.flights.items (who - 1)
at_client b zero some = absurd (omega (arith, some))
at_client b (suc k) some = ap (flight_at b.flights.items) (omega arith)

pub flies_by : (b : Parts) (who : ℕ) (f : Flight) → flight_of b who ≡ Some f → Flies b who f
flies_by b zero f is = absurd (none-some f is)
flies_by b (suc k) f is = record { client = omega arith; is = ap (flight_at b.flights.items) (omega arith) ∙ is }

pub flight_is : (b : Parts) (who : ℕ) (f : Flight) → Flies b who f → flight_of b who ≡ Some f
flight_is b who f flies = at_client b who flies.client ∙ flies.is

pub one_flight : (b : Parts) (who : ℕ) (f g : Flight) → Flies b who f → Flies b who g → f ≡ g
one_flight b who f g one other = same_Some f g (sym one.is ∙ other.is)

-- there are 14 clients
pub client_few : (b : Parts) (who : ℕ) (f : Flight) → length b.flights.items ≡ 14 → Flies b who f → who ≤ 14
client_few b who f long flies = by (slice_get b.flights.items (who - 1)) refl flies.is
  where
    by : (o : Option (Option Flight)) → slice_get b.flights.items (who - 1) ≡ o → opened o ≡ Some f → who ≤ 14
    by None at is = absurd (none-some f is)
    by (Some found) at is = let within = slice_get_within b.flights.items (who - 1) found at in omega (arith, within, long)

-- flights of others are what they were
pub others_same : (who : ℕ) (b b' : Parts) → SameOthers who b b' → (q : ℕ) → q ≢ who → flight_of b' q ≡ flight_of b q
others_same who b b' others zero ne = refl
others_same who b b' others (suc k) ne =
    at_client b' (suc k) (omega arith) ∙ others.flights (suc k) (omega arith) ne ∙ sym (at_client b (suc k) (omega arith))

pub all_same : (b b' : Parts) → b'.flights.items ≡ b.flights.items → (q : ℕ) → flight_of b' q ≡ flight_of b q
all_same b b' same zero = refl
all_same b b' same (suc k) = ap (λ (fs : List (Option Flight)). flight_at fs k) same

pub was_flying : (b b' : Parts) → b'.flights.items ≡ b.flights.items → (q : ℕ) (f : Flight) → Flies b' q f → Flies b q f
was_flying b b' same q f flies = record {
  client = flies.client;
  is = ap (λ (fs : List (Option Flight)). flight_at fs (q - 1)) (sym same) ∙ flies.is;
}

module _ (scripts : List (ℕ × List Op)) (p : Played) (b : Parts) (fits : Fits scripts p b) where
  pub left_at : (who : ℕ) (f : Flight) → who ≢ 15 → who ≢ 16 → Flies b who f → p.left who ≡ left_of f
  left_at who f no_daemon no_reclaim flies = fits.clients who no_daemon no_reclaim ∙ ap flight_left (flight_is b who f flies)

  pub next_at : (who : ℕ) (f : Flight) → Flies b who f → next_op scripts p.entries who ≡ Some f.op
  next_at who f flies = ap (λ (es : List Entry). next_op scripts es who) fits.entries ∙ fits.flying.next who f flies

  -- what clients have left, where one has so many events left and others have what they had
  pub clients_set : (b' : Parts) (who n : ℕ) → (who ≢ 15 → who ≢ 16 → n ≡ flight_left (flight_of b' who))
      → ((q : ℕ) → q ≢ who → flight_of b' q ≡ flight_of b q)
      → (q : ℕ) → q ≢ 15 → q ≢ 16 → set_left who n p.left q ≡ flight_left (flight_of b' q)
  clients_set b' who n here others q no_daemon no_reclaim = elim (cases_eq q who) [
    | inl e ↦ ap (λ (t : Bool). if t then n else p.left q) (eq-eqb q who e)
        ∙ here (λ w. no_daemon (e ∙ w)) (λ w. no_reclaim (e ∙ w)) ∙ ap (λ (k : ℕ). flight_left (flight_of b' k)) (sym e)
    | inr ne ↦ ap (λ (t : Bool). if t then n else p.left q) (ne_eqb q who ne) ∙ fits.clients q no_daemon no_reclaim
        ∙ ap flight_left (sym (others q ne))
  ]

  pub clients_kept : (b' : Parts) → ((q : ℕ) → q ≢ 16 → flight_of b' q ≡ flight_of b q) → (q : ℕ) → q ≢ 15 → q ≢ 16
      → p.left q ≡ flight_left (flight_of b' q)
  clients_kept b' same q no_daemon no_reclaim = fits.clients q no_daemon no_reclaim ∙ ap flight_left (sym (same q no_reclaim))

  -- and the daemon
  pub daemon_kept : (b' : Parts) → b'.sharing ≡ b.sharing → p.left 15 ≡ sharing_events b'.sharing
  daemon_kept b' same = fits.daemon ∙ ap sharing_events (sym same)

  pub daemon_set : (b' : Parts) (who n : ℕ) → who ≢ 15 → b'.sharing ≡ b.sharing → set_left who n p.left 15 ≡ sharing_events b'.sharing
  daemon_set b' who n other same =
      ap (λ (t : Bool). if t then n else p.left 15) (ne_eqb 15 who (λ e. other (sym e))) ∙ daemon_kept b' same

  -- and a cleaning
  pub cleaning_kept : (b' : Parts) → b'.reclaiming.cleaning ≡ b.reclaiming.cleaning → IsSome b'.reclaiming.cleaning → 0 < p.left 16
  cleaning_kept b' same some = fits.cleaning (subst (λ (c : Option Cleaning). IsSome c) same some)

  pub cleaning_set : (b' : Parts) (who n : ℕ) → who ≢ 16 → b'.reclaiming.cleaning ≡ b.reclaiming.cleaning → IsSome b'.reclaiming.cleaning
      → 0 < set_left who n p.left 16
  cleaning_set b' who n other same some =
      subst (λ (k : ℕ). 0 < k) (sym (ap (λ (t : Bool). if t then n else p.left 16) (ne_eqb 16 who (λ e. other (sym e)))))
      (cleaning_kept b' same some)

  -- what is in flight, where nothing is answered
  pub fly_kept : (b' : Parts) → b'.history.items ≡ b.history.items
      → ((q : ℕ) (f : Flight) → Flies b' q f → (g : Flight) × Flies b q g × (f.op ≡ g.op)) → FlyNext scripts b'
  fly_kept b' history was = record {
    next = λ q f flies. let g = was q f flies in
        ap (λ (es : List Entry). next_op scripts es q) history ∙ fits.flying.next q g.0 g.1 ∙ ap (λ (op : Op). Some op) (sym g.2);
  }

  pub fly_ops : (b' : Parts) → b'.history.items ≡ b.history.items → KeepsOps b b' → FlyNext scripts b'
  fly_ops b' history ops = fly_kept b' history ops.only

  pub fly_same : (b' : Parts) → b'.history.items ≡ b.history.items → b'.flights.items ≡ b.flights.items → FlyNext scripts b'
  fly_same b' history same = fly_kept b' history (λ q f flies. (f, was_flying b b' same q f flies, refl))

  -- where one begins
  pub fly_begun : (b' : Parts) (who : ℕ) (op : Op) (flight : Flight) → b'.history.items ≡ b.history.items → Flies b' who flight → flight.op ≡ op
      → next_op scripts p.entries who ≡ Some op → SameOthers who b b' → FlyNext scripts b'
  fly_begun b' who op flight history flies op_is next others = record {
    next = λ q f flies'. elim (cases_eq q who) [
      | inl e ↦ here q f e flies'
      | inr ne ↦ ap (λ (es : List Entry). next_op scripts es q) history
          ∙ fits.flying.next q f (record { client = flies'.client; is = sym (others.flights q flies'.client ne) ∙ flies'.is })
    ];
  }
    where
      here : (q : ℕ) (f : Flight) → q ≡ who → Flies b' q f → next_op scripts b'.history.items q ≡ Some f.op
      here q f e flies' =
          let same = one_flight b' who flight f flies (subst (λ (n : ℕ). Flies b' n f) e flies') in
          ap (λ (n : ℕ). next_op scripts b'.history.items n) e ∙ ap (λ (es : List Entry). next_op scripts es who) (history ∙ sym fits.entries) ∙ next
          ∙ ap (λ (o : Op). Some o) (sym op_is) ∙ ap (λ (g : Flight). Some g.op) same

  -- and where one of this client's is answered, which then has none in flight
  pub fly_answered : (b' : Parts) (who : ℕ) (entry : Entry) → b'.history.items ≡ b.history.items ++ entry ∷ [] → entry.who ≡ who
      → ((q : ℕ) (f : Flight) → Flies b' q f → (q ≢ who) × Flies b q f) → FlyNext scripts b'
  fly_answered b' who entry history who_is was = record {
    next = λ q f flies. let other = was q f flies in
        ap (λ (es : List Entry). next_op scripts es q) history
        ∙ ap (λ (es : List Entry). slice_get (script_of scripts q) (length es))
        (other_entries q b.history.items entry (λ e. other.0 (sym e ∙ who_is)))
        ∙ fits.flying.next q f other.1;
  }

  -- the entry of what is answered
  pub entries_answered : (b' : Parts) (who : ℕ) (op : Op) (reply : Reply) (entry : Entry) → b'.history.items ≡ b.history.items ++ entry ∷ []
      → entry.who ≡ who → entry.op ≡ op → entry.reply ≡ reply → next_op scripts p.entries who ≡ Some op
      → p.entries ++ entry_for who reply (next_op scripts p.entries who) ≡ b'.history.items
  entries_answered b' who op reply entry history who_is op_is reply_is next =
      ap (λ (o : Option Op). p.entries ++ entry_for who reply o) next
      ∙ ap (λ (es : List Entry). es ++ record { who = who; op = op; reply = reply } ∷ []) fits.entries
      ∙ ap (λ (e : Entry). b.history.items ++ e ∷ []) (sym same) ∙ sym history
    where
      same : entry ≡ record { who = who; op = op; reply = reply }
      same = ap (λ (w : ℕ). record { who = w; op = entry.op; reply = entry.reply }) who_is
          ∙ ap (λ (o : Op). record { who = who; op = o; reply = entry.reply }) op_is
          ∙ ap (λ (r : Reply). record { who = who; op = op; reply = r }) reply_is

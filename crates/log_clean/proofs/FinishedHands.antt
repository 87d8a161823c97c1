-- A cleaning ends: who holds and has taken what, where nothing else ended or began.
use Rattle.std.proofs.Common.{◌≡◌, ◌≢◌, ⊎_elim, ℕ, ◌-◌, ◌<◌, ◌≤◌, refl, sym, ◌∙◌, ap, subst, arith}
use Rattle.std.specs.Prelude.{Option, Some, None, Contains}
use Rattle.std.proofs.lemmas.Bool.{cases_lt}
use Rattle.pm_device.specs.State.{State}
use Rattle.page_alloc.specs.Free.{FreePages}
use Rattle.dn_model.specs.Disk.{Disk}
use Rattle.dn_volume.specs.declared.background.Cleaning.{Cleaning}
use Rattle.dn_volume.specs.declared.background.Reclaiming.{Reclaiming}
use Rattle.dn_volume.specs.declared.flight.Change.{Change}
use Rattle.dn_volume.specs.declared.flight.Change.TheVariants.{Data, Names}
use Rattle.dn_volume.specs.declared.flight.Flight.{Flight}
use Rattle.dn_volume.specs.declared.volume.Parts.{Parts}
use Rattle.dn_volume.specs.Parties.{Flies, Holds, by_client, by_daemon, by_cleaning, Takes, for_client, for_cleaning, SameOthers, flight_at}
use Rattle.dn_volume.specs.Flights.{GrowsBy, IsFlightOf}
use Rattle.dn_volume.specs.Agrees.{IsVolume}
use Rattle.log_clean.specs.Finishing.{EndsCleaning}
use Rattle.log_clean.proofs.Begun.{one_cleaning, no_client, here_at}
use Rattle.log_clean.proofs.FinishedRest.{KeepsCounted}

-- the cleaning is taken out, and the pages that are free are these
abbrev pub taken_out : Parts → FreePages → Parts
taken_out b f = record b { free = f; reclaiming = record b.reclaiming { cleaning = None } }

module _ (b b' : Parts) (c : Cleaning) (f : FreePages) (cleans : b.reclaiming.cleaning ≡ Some c) (ends : EndsCleaning c (taken_out b f) b') where
  pub none_now : b'.reclaiming.cleaning ≡ None
  none_now = ap (λ (r : Reclaiming). r.cleaning) ends.reclaiming

  pub kept_counted : KeepsCounted b b'
  kept_counted = record {
    flights = ends.flights;
    sharing = ends.sharing;
    zero_check = ap (λ (r : Reclaiming). r.zero_check) ends.reclaiming;
    raised = ap (λ (r : Reclaiming). r.raised) ends.reclaiming;
    releases = ap (λ (r : Reclaiming). r.releases) ends.reclaiming;
    waiting = ap (λ (r : Reclaiming). r.waiting) ends.reclaiming;
  }

  pub flight_same : (k : ℕ) → flight_at b'.flights.items k ≡ flight_at b.flights.items k
  flight_same k = ap (λ (fs : _). flight_at fs.items k) ends.flights

  pub flies_on : (who : ℕ) (x : Flight) → Flies b who x → Flies b' who x
  flies_on who x flies = record { client = flies.client; is = flight_same (who - 1) ∙ flies.is }

  pub flies_back : (who : ℕ) (x : Flight) → Flies b' who x → Flies b who x
  flies_back who x flies = record { client = flies.client; is = sym (flight_same (who - 1)) ∙ flies.is }

  same_cleaning : (x : Cleaning) → b.reclaiming.cleaning ≡ Some x → c ≡ x
  same_cleaning x at = one_cleaning b.reclaiming.cleaning c x cleans at

  no_cleaning : (x : Cleaning) → b'.reclaiming.cleaning ≡ Some x → ⊥
  no_cleaning x at = none_some b'.reclaiming.cleaning none_now at
    where
      none_some : (o : Option Cleaning) → o ≡ None → o ≡ Some x → ⊥
      none_some o none some = cc

  pub others_same : SameOthers 16 b b'
  others_same = record {
    flights = λ q client other. flight_same (q - 1);
    sharing = λ other. ends.sharing;
    cleaning = λ other. absurd (other refl);
  }

  pub holds_on : (who ino : ℕ) → ino ≢ c.ino → Holds b who ino → Holds b' who ino
  holds_on who ino ne (by_client x flies has) = by_client x (flies_on who x flies) has
  holds_on who ino ne (by_daemon item him at same) = by_daemon item him (ends.sharing ∙ at) same
  holds_on who ino ne (by_cleaning x him at same) = absurd (ne (sym same ∙ ap (λ (y : Cleaning). y.ino) (sym (same_cleaning x at))))

  pub takes_on : (who page : ℕ) → who ≢ 16 → Takes b who page → Takes b' who page
  takes_on who page other (for_client x flies has) = for_client x (flies_on who x flies) has
  takes_on who page other (for_cleaning x him at has) = absurd (other him)

  pub of_cleaning : (page : ℕ) → Contains c.pages.items page → Takes b 16 page
  of_cleaning page has = for_cleaning c refl cleans has

  module _ (d : Disk) (s : State) (v : IsVolume d b s) where
    client_low : (who : ℕ) (x : Flight) → Flies b who x → who < 15
    client_low who x flies = low who (no_client b who x v.flights.clients) flies
      where
        low : (n : ℕ) → (15 ≤ n → Flies b who x → ⊥) → Flies b who x → n < 15
        low n high flies = ⊎_elim (λ lt. lt) (λ le. absurd (high le flies)) (cases_lt n 15)

    -- no two hold an inode
    pub one_holder : (ino p q : ℕ) → Holds b p ino → Holds b q ino → p ≡ q
    one_holder ino p q hp hq =
        let node = here_at b.inodes.items ino (omega (arith, v.holders.in_table ino p hp, v.inodes.all)) in
        some_same node.0.holder p q ((v.holders.told ino p node.0 node.1).1 hp) ((v.holders.told ino q node.0 node.1).1 hq)
      where
        some_same : (h : Option ℕ) (p q : ℕ) → h ≡ Some p → h ≡ Some q → p ≡ q
        some_same h p q there here = cc

    mine_held : Holds b 16 c.ino
    mine_held = by_cleaning c refl cleans refl

    pub not_held : (who ino : ℕ) → who ≢ 16 → Holds b who ino → ino ≢ c.ino
    not_held who ino other holds same = other (one_holder c.ino who 16 (subst (Holds b who) same holds) mine_held)

    pub holds_back : (who ino : ℕ) → Holds b' who ino → Holds b who ino × (ino ≢ c.ino)
    holds_back who ino (by_client x flies has) =
        let was = by_client x (flies_back who x flies) has in
        (was, not_held who ino (λ him. omega (arith, him, client_low who x (flies_back who x flies))) was)
    holds_back who ino (by_daemon item him at same) =
        let was = by_daemon item him (sym ends.sharing ∙ at) same in
        (was, not_held who ino (λ me. omega (arith, him, me)) was)
    holds_back who ino (by_cleaning x him at same) = absurd (no_cleaning x at)

    pub takes_back : (who page : ℕ) → Takes b' who page → Takes b who page × (who ≢ 16)
    takes_back who page (for_client x flies has) = (
      for_client x (flies_back who x flies) has,
      λ him. omega (arith, him, client_low who x (flies_back who x flies)),
    )
    takes_back who page (for_cleaning x him at has) = absurd (no_cleaning x at)

    pub takes_mine : (page : ℕ) → Takes b 16 page → Contains c.pages.items page
    takes_mine page takes = by_taker 16 refl takes
      where
        by_taker : (who : ℕ) → who ≡ 16 → Takes b who page → Contains c.pages.items page
        by_taker who me (for_client x flies has) = absurd (omega (arith, me, client_low who x flies))
        by_taker who me (for_cleaning x him at has) = subst (λ (y : Cleaning). Contains y.pages.items page) (sym (same_cleaning x at)) has

    -- the room of the index of a file that is written
    pub flight_apart : (who : ℕ) (x : Flight) → Flies b who x → x.ino ≢ c.ino
    flight_apart who x flies = not_held who x.ino (λ him. omega (arith, him, client_low who x flies))
        (by_client x flies (grows x.change (v.flights.each who x flies)).holds)
      where
        grows : (y : Change) → IsFlightOf d who x s y → GrowsBy d x
        grows (Data y) is = is.grows
        grows (Names y) is = is.grows

-- What is kept in memory, where a change of counts leaves the operations and the daemon's item as they are.
use Rattle.std.proofs.Common.{◌≡◌, ℕ, ◌-◌, List, sym, ◌∙◌, ap, subst, arith}
use Rattle.std.specs.Prelude.{slice_get, Option, Contains}
use Rattle.dedupe_queue.specs.declared.Work.{Work}
use Rattle.dn_model.specs.Counts.{total}
use Rattle.dn_volume.specs.declared.flight.Flight.{Flight}
use Rattle.dn_volume.specs.declared.background.Sharing.{Sharing}
use Rattle.dn_volume.specs.declared.background.DyingPlace.{DyingPlace}
use Rattle.dn_volume.specs.declared.volume.InodeState.{InodeState}
use Rattle.dn_volume.specs.declared.volume.Parts.{Parts}
use Rattle.dn_volume.specs.declared.volume.Room.{Room}
use Rattle.dn_volume.specs.Parties.{Flies, Holds, by_client, by_daemon, by_cleaning, Takes, for_client, for_cleaning, SameOthers, flight_at}
use Rattle.dn_volume.specs.Balance.{times, raised_by, raised_to_share, raised_to_die, added_to_share, raised, added}
use Rattle.dn_volume.specs.Reserve.{owed_to, owed_sum}
use Rattle.dn_volume.specs.Shares.{IsWaiting, in_queue, is_begun}
use Rattle.dn_volume.proofs.Hands.{SameHands}

module _ (b b' : Parts) (flights : b'.flights.items ≡ b.flights.items) where
  pub flies_still : (who : ℕ) (f : Flight) → Flies b who f → Flies b' who f
  flies_still who f flies = record { client = flies.client; is = ap (λ (fs : List (Option Flight)). flight_at fs (who - 1)) flights ∙ flies.is }

  pub flies_before : (who : ℕ) (f : Flight) → Flies b' who f → Flies b who f
  flies_before who f flies = record {
    client = flies.client;
    is = ap (λ (fs : List (Option Flight)). flight_at fs (who - 1)) (sym flights) ∙ flies.is;
  }

  pub owed_same : (kind : Room → ℕ) → owed_sum b' kind ≡ owed_sum b kind
  owed_same kind = ap (λ (fs : List (Option Flight)). total 14 (λ k. kind (owed_to (flight_at fs k)))) flights

  module _ (sharing : b'.sharing ≡ b.sharing) where
    pub added_same : (slot : ℕ) → added b' slot ≡ added b slot
    added_same slot = ap (λ (x : Option Sharing). times slot (added_to_share x)) sharing

    pub raised_same : b'.reclaiming.raised ≡ b.reclaiming.raised → (slot : ℕ) → raised b' slot ≡ raised b slot
    raised_same dying slot =
        let flown : total 14 (λ k. times slot (raised_by (flight_at b'.flights.items k))) ≡ total 14 (λ k. times slot (raised_by (flight_at b.flights.items k))) =
        ap (λ (fs : List (Option Flight)). total 14 (λ k. times slot (raised_by (flight_at fs k)))) flights in
        let shared : times slot (raised_to_share b'.sharing) ≡ times slot (raised_to_share b.sharing) = ap
        (λ (x : Option Sharing). times slot (raised_to_share x)) sharing in
        let died : times slot (raised_to_die b'.reclaiming.raised) ≡ times slot (raised_to_die b.reclaiming.raised) = ap
        (λ (x : Option DyingPlace). times slot (raised_to_die x)) dying in
        omega (arith, flown, shared, died)

    module _ (cleaning : b'.reclaiming.cleaning ≡ b.reclaiming.cleaning) where
      holds_still : (who ino : ℕ) → Holds b who ino → Holds b' who ino
      holds_still who ino (by_client f flies has) = by_client f (flies_still who f flies) has
      holds_still who ino (by_daemon item him is same) = by_daemon item him (sharing ∙ is) same
      holds_still who ino (by_cleaning c him is same) = by_cleaning c him (cleaning ∙ is) same

      holds_before : (who ino : ℕ) → Holds b' who ino → Holds b who ino
      holds_before who ino (by_client f flies has) = by_client f (flies_before who f flies) has
      holds_before who ino (by_daemon item him is same) = by_daemon item him (sym sharing ∙ is) same
      holds_before who ino (by_cleaning c him is same) = by_cleaning c him (sym cleaning ∙ is) same

      takes_still : (who page : ℕ) → Takes b who page → Takes b' who page
      takes_still who page (for_client f flies has) = for_client f (flies_still who f flies) has
      takes_still who page (for_cleaning c him is has) = for_cleaning c him (cleaning ∙ is) has

      takes_before : (who page : ℕ) → Takes b' who page → Takes b who page
      takes_before who page (for_client f flies has) = for_client f (flies_before who f flies) has
      takes_before who page (for_cleaning c him is has) = for_cleaning c him (sym cleaning ∙ is) has

      module _ (inodes : b'.inodes.items ≡ b.inodes.items) (queue : b'.queue.items ≡ b.queue.items) where
        waits_still : (ino slot : ℕ) → IsWaiting b ino slot → IsWaiting b' ino slot
        waits_still ino slot (in_queue work n has of_ino of_slot at round) =
            in_queue work n (subst (λ (ws : List Work). Contains ws work) (sym queue) has) of_ino of_slot
            (ap (λ (ns : List InodeState). slice_get ns ino) inodes ∙ at) round
        waits_still ino slot (is_begun item is of_ino of_slot) = is_begun item (sharing ∙ is) of_ino of_slot

        pub hands_same : SameHands b b'
        hands_same = record { holds = holds_still; held = holds_before; takes = takes_still; taken = takes_before; waits = waits_still }

      pub others_same : (who : ℕ) → SameOthers who b b'
      others_same who = record { flights = λ q some ne. ap (λ (fs : List (Option Flight)). flight_at fs (q - 1)) flights; sharing = λ ne. sharing; cleaning = λ ne. cleaning }

-- What others have begun stays through an event, since it is for what its actor holds and has taken.
use Rattle.std.proofs.Common.{◌≡◌, ◌≢◌, ⊎_elim, ℕ, ◌<◌, List, length, refl, sym, ◌∙◌, subst, arith}
use Rattle.std.specs.Prelude.{slice_get, Option, Some, None, Contains}
use Rattle.std.proofs.lemmas.Option.{slice_get_cases}
use Rattle.pm_device.specs.State.{State}
use Rattle.dn_model.specs.Disk.{Disk, Use, Live, Dying}
use Rattle.law_write.specs.Events.{IsUnused}
use Rattle.dn_volume.specs.declared.flight.Flight.{Flight}
use Rattle.dn_volume.specs.declared.volume.InodeState.{InodeState}
use Rattle.dn_volume.specs.declared.volume.Parts.{Parts}
use Rattle.dn_volume.specs.Parties.{Flies, Holds, by_client, by_daemon, by_cleaning, Takes, for_client, for_cleaning, SameOthers, taken_by}
use Rattle.dn_volume.specs.Flights.{GrowsBy, IsFlight, IsFlightOf}
use Rattle.dn_volume.specs.declared.flight.Change.{Change}
use Rattle.dn_volume.specs.declared.flight.Change.TheVariants.{Data, Names}
use Rattle.dn_volume.specs.Agrees.{IsVolume}
use Rattle.dn_volume.specs.Rely.{LeavesRest, IsFor, OthersStay}
use Rattle.dn_volume.specs.declared.background.Sharing.{Sharing}
use Rattle.dn_volume.specs.declared.background.DyingPlace.{DyingPlace}
use Rattle.dn_volume.specs.Shares.{IsSharing}
use Rattle.dn_volume.specs.Reclaims.{IsRaised}
use Rattle.dn_volume.specs.declared.background.Cleaning.{Cleaning}
use Rattle.dn_volume.specs.Cleans.{IsCleaning}
use Rattle.dn_volume.proofs.FlightsStay.{flights_stay}
use Rattle.dn_volume.proofs.CleaningStays.{cleaning_stays}
use Rattle.dn_volume.proofs.InHand.{sharing_stays, raised_stays}

none_some : (r : Option InodeState) (n : InodeState) → r ≡ None → r ≡ Some n → ⊥
none_some r n gone there = cc

some_same : (h : Option ℕ) (p q : ℕ) → h ≡ Some p → h ≡ Some q → p ≡ q
some_same h p q there here = cc

module _ (who : ℕ) (inodes pages : List ℕ) (d e : Disk) (b b' : Parts) (s t : State) (volume : IsVolume d b s)
    (for_it : IsFor d b who inodes pages) (leaves : LeavesRest who inodes pages d e s t) (same : SameOthers who b b') where
  -- no two hold an inode
  one_holder : (ino p q : ℕ) → Holds b p ino → Holds b q ino → p ≡ q
  one_holder ino p q hp hq = by_node (slice_get b.inodes.items ino) refl
    where
      inside : ino < length b.inodes.items
      inside = omega (arith, volume.holders.in_table ino p hp, volume.inodes.all)

      by_node : (r : Option InodeState) → slice_get b.inodes.items ino ≡ r → p ≡ q
      by_node None is =
          ⊎_elim (λ found. absurd (none_some (slice_get b.inodes.items ino) found.0 is found.2)) (λ past. absurd (omega (arith, inside, past.0)))
          (slice_get_cases b.inodes.items ino).1
      by_node (Some n) is = some_same n.holder p q ((volume.holders.told ino p n is).1 hp) ((volume.holders.told ino q n is).1 hq)

  takes_unused : (q page : ℕ) → Takes b q page → IsUnused d page
  takes_unused q page (for_client f flies has) =
      volume.space.unused page (λ none. let is = volume.space.takes q page (for_client f flies has) in let some = flies.client in
      omega (arith, is, some, none))
  takes_unused q page (for_cleaning c him cleans has) =
      volume.space.unused page (λ none. let is = volume.space.takes q page (for_cleaning c him cleans has) in omega (arith, is, him, none))

  -- the pages are unused, and others have taken none of them
  unused_pages : (page : ℕ) → Contains pages page → IsUnused d page
  unused_pages page has = ⊎_elim (λ takes. takes_unused who page takes) (λ free. ((volume.space.free page).0 free).0) (for_it.page page has)

  out_pages : (q page : ℕ) (f : Flight) → q ≢ who → Flies b q f → Contains (taken_by f) page → Contains pages page → ⊥
  out_pages q page f other flies taken has =
      let his = volume.space.takes q page (for_client f flies taken) in
      ⊎_elim (λ takes. other (sym his ∙ volume.space.takes who page takes)) (λ free. let none = ((volume.space.free page).0 free).1 in
      let some = flies.client in omega (arith, his, none, some)) (for_it.page page has)

  -- nor do they hold any of the inodes
  undying : (q : ℕ) (f : Flight) → Flies b q f → GrowsBy d f
  undying q f flies = by_change f.change (volume.flights.each q f flies)
    where
      by_change : (c : Change) → IsFlightOf d q f s c → GrowsBy d f
      by_change (Data c) is = is.grows
      by_change (Names c) is = is.grows

  out_inodes : (q i : ℕ) (f : Flight) → q ≢ who → Flies b q f → Contains f.held.items i → Contains inodes i → ⊥
  out_inodes q i f other flies held has =
      ⊎_elim (λ holds. other (one_holder i q who (by_client f flies held) holds)) (λ dies. (undying q f flies).undying i dies.1 held dies.2)
      (for_it.inode i has)

  flight_is : (q : ℕ) (f : Flight) → q ≢ who → Flies b' q f → Flies b q f
  flight_is q f other flies = record { client = flies.client; is = sym (same.flights q flies.client other) ∙ flies.is }

  pub others_fly : (q : ℕ) (f : Flight) → q ≢ who → Flies b' q f → IsFlight e q f t
  others_fly q f other flies' =
      let flies = flight_is q f other flies' in
      flights_stay who q inodes pages d e s t f other volume.fast.valid volume.fast.long leaves unused_pages (λ i. out_inodes q i f other flies)
      (λ page. out_pages q page f other flies)
      (λ page has. takes_unused q page (for_client f flies has)) (volume.flights.each q f flies)

  pub daemon_stays : who ≢ 15 → (sharing : Sharing) → b'.sharing ≡ Some sharing → IsSharing e sharing
  daemon_stays other sharing is' =
      let is = sym (same.sharing other) ∙ is' in
      sharing_stays inodes pages d e volume.fast.valid leaves.rest b volume.counts sharing (volume.sharing sharing is) is (λ has.
      ⊎_elim (λ holds. other (one_holder sharing.work.ino who 15 holds (by_daemon sharing refl is refl)))
      (λ dies. no_dying _ _ (volume.sharing sharing is).begun.live dies.2) (for_it.inode sharing.work.ino has))
    where
      no_dying : (u : Use) (cut : ℕ) → u ≡ Live → u ≡ Dying cut → ⊥
      no_dying u cut live dying = cc

  pub place_stays : who ≢ 16 → b'.reclaiming.raised ≡ b.reclaiming.raised → (p : DyingPlace) → b'.reclaiming.raised ≡ Some p → IsRaised e p
  place_stays other stays p is' =
      let is = sym stays ∙ is' in
      let was = volume.reclaiming.raised p is in
      raised_stays inodes pages d e volume.fast.valid leaves.rest b volume.counts p is (λ has. ⊎_elim (λ holds. held p.ino was.before holds was.dying)
      (λ dies. other dies.0) (for_it.inode p.ino has)) was
    where
      clash : (u : Use) (cut : ℕ) → u ≡ Live → u ≡ Dying cut → ⊥
      clash u cut live dying = cc

      held : (ino cut : ℕ) → Holds b who ino → (d.inode ino).use_of ≡ Dying cut → ⊥
      held ino cut (by_client f flies listed) dying = (undying who f flies).undying ino cut listed dying
      held ino cut (by_cleaning c him is same) dying = absurd (other him)
      held ino cut (by_daemon sharing him is same) dying = clash _ cut (volume.sharing sharing is).begun.live
          (subst (λ (i : ℕ). (d.inode i).use_of ≡ Dying cut) (sym same) dying)

  pub cleaning_on : who ≢ 16 → (c : Cleaning) → b'.reclaiming.cleaning ≡ Some c → IsCleaning e c t
  cleaning_on other c is' =
      let is = sym (same.cleaning other) ∙ is' in
      let takes : (page : ℕ) → Contains c.pages.items page → Takes b 16 page = λ page has. for_cleaning c refl is has in
      cleaning_stays inodes pages d e s t volume.fast.valid leaves.rest leaves.only c (λ has. ⊎_elim
      (λ holds. other (one_holder c.ino who 16 holds (by_cleaning c refl is refl))) (λ dies. other dies.0) (for_it.inode c.ino has))
      (λ page has. takes_unused 16 page (takes page has)) (λ page has stored. ⊎_elim
      (λ mine. other (sym (volume.space.takes who page mine) ∙ volume.space.takes 16 page (takes page has)))
      (λ free. let none = ((volume.space.free page).0 free).1 in let his = volume.space.takes 16 page (takes page has) in omega (arith, none, his))
      (for_it.page page stored)) (volume.cleaning c is)

pub others_stay : OthersStay
others_stay who inodes pages d e b b' s t volume fast for_it leaves same raised = (
  others_fly who inodes pages d e b b' s t volume for_it leaves same,
  record {
    sharing = λ other sharing is. daemon_stays who inodes pages d e b b' s t volume for_it leaves same other sharing is;
    raised = λ other p is. place_stays who inodes pages d e b b' s t volume for_it leaves same other (raised other) p is;
    cleaning = λ other c is. cleaning_on who inodes pages d e b b' s t volume for_it leaves same other c is;
  },
)

-- Whatever an operation in flight is, it stays as far as it is through an event of another actor.
use Rattle.std.proofs.Common.{◌≡◌, ◌++◌, refl, sym, subst}
use Rattle.std.specs.Prelude.{slice_index, Contains}
use Rattle.std.proofs.lemmas.List.Elements.{Contains-get_or, Contains-append_right}
use Rattle.dn_volume.specs.declared.flight.Change.{Change}
use Rattle.dn_volume.specs.declared.flight.Change.TheVariants.{Data, Names}
use Rattle.dn_volume.specs.Parties.{blocks_of}
use Rattle.dn_volume.specs.Flights.{IsFlightOf}
use Rattle.dn_volume.specs.Rely.{FlightsStay}
use Rattle.dn_volume.proofs.DataStays.{data_stays}
use Rattle.dn_volume.proofs.NamesStay.{names_stay}

pub flights_stay : FlightsStay
flights_stay who q inodes pages d e s t f other valid long leaves unused_pages out out_pages unused is = by_change f.change refl is
  where
    by_change : (c : Change) → f.change ≡ c → IsFlightOf d q f s c → IsFlightOf e q f t c
    by_change (Data c) same is =
        data_stays who q inodes pages d e s t f other valid long leaves out out_pages unused c (λ i lt.
        subst (λ (change : Change). Contains (f.fresh.items ++ f.spare.items ++ blocks_of change) (slice_index c.blocks.items i)) (sym same)
        (Contains-append_right (f.fresh.items ++ f.spare.items) c.blocks.items (slice_index c.blocks.items i)
        (Contains-get_or c.blocks.items i 0 lt))) is
    by_change (Names c) same is = names_stay who q inodes pages d e s t f other valid long leaves unused_pages out out_pages unused c is

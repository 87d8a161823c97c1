-- A device stays still but for what operations in flight await.
use Rattle.std.proofs.Common.{◌≡◌, ◌⊎◌, inl, inr, ⊎_elim, ℕ, ◌<◌, List, length, ◌∙◌, subst}
use Rattle.std.proofs.lemmas.Bool.{cases_eq}
use Rattle.pm_device.specs.State.{State, IsSame}
use Rattle.pm_device.specs.Settled.{IsSettled, IsFlushed}
use Rattle.pm_device.proofs.Calls.{settled_is_flushed}
use Rattle.pm_device.proofs.Flushed.{settled_same, flushed_same}
use Rattle.dn_volume.specs.declared.flight.Flight.{Flight}
use Rattle.dn_volume.specs.declared.volume.Parts.{Parts}
use Rattle.dn_volume.specs.Parties.{Flies}
use Rattle.dn_volume.specs.Stills.{IsAwaitedBy, IsAwaited, IsStillBut}
use Rattle.dn_volume.specs.StillLaws.{StillWithoutFlights, StillFlushes, StillSettles}

pub still_same : (b b' : Parts) (s t : State) → IsSame s t → ((q : ℕ) (f : Flight) → Flies b q f → Flies b' q f) → IsStillBut b s → IsStillBut b' t
still_same b b' s t same on but = record {
  each = λ a lt. ⊎_elim (λ settled. inl (settled_same s t a same settled)) (λ waits. inr (awaited a waits))
      (but.each a (subst (λ (ws : List ℕ). a < length ws) same.now lt));
}
  where
    awaited : (a : ℕ) → IsAwaited b s a → IsAwaited b' t a
    awaited a waits = record {
      who = waits.who;
      by = record {
        flight = waits.by.flight;
        flies = on waits.who waits.by.flight waits.by.flies;
        flushed = flushed_same s t waits.who a same waits.by.flushed;
      };
    }

pub still_without : StillWithoutFlights
still_without b s but none a lt = ⊎_elim (λ settled. settled) (λ awaited. absurd (none awaited.who awaited.by.flight awaited.by.flies))
    (but.each a lt)

pub still_flushes : StillFlushes
still_flushes who f b b' s t flushes flies same but = record {
  each = λ a lt. let small = subst (λ (n : ℕ). a < n) flushes.words lt in
      by a small (but.each a small);
}
  where
    mine : (a : ℕ) → IsFlushed who t a → IsAwaited b' t a
    mine a flushed = record { who = who; by = record { flight = f; flies = flies; flushed = flushed } }

    own : (a : ℕ) → a < length s.now → IsFlushed who s a → IsAwaited b' t a
    own a lt flushed = mine a (⊎_elim (λ is. is) (λ is. is) (flushes.kept who a lt flushed))

    by_client : (a q : ℕ) → a < length s.now → IsAwaitedBy b s q a → ((q ≡ who) ⊎ (q ≡ who → ⊥)) → IsAwaited b' t a
    by_client a q lt by (inl me) = own a lt (subst (λ (n : ℕ). IsFlushed n s a) me by.flushed)
    by_client a q lt by (inr other) = ⊎_elim
        (λ his. record {
          who = q;
          by = record {
            flight = by.flight;
            flies = record {
              client = by.flies.client;
              is = same.flights q by.flies.client
                  other ∙ by.flies.is;
            };
            flushed = his;
          };
        })
        (λ is. mine a is) (flushes.kept q a lt by.flushed)

    by : (a : ℕ) → a < length s.now → IsSettled s a ⊎ IsAwaited b s a → IsSettled t a ⊎ IsAwaited b' t a
    by a lt (inl settled) = inr (own a lt (settled_is_flushed s who a settled))
    by a lt (inr waits) = inr (by_client a waits.who lt waits.by (cases_eq waits.who who))

pub still_settles : StillSettles
still_settles who b b' s t settles same but = record {
  each = λ a lt. let small = subst (λ (n : ℕ). a < n) settles.words lt in
      by a small (but.each a small);
}
  where
    by_client : (a q : ℕ) → a < length s.now → IsAwaitedBy b s q a → ((q ≡ who) ⊎ (q ≡ who → ⊥)) → IsSettled t a ⊎ IsAwaited b' t a
    by_client a q lt by (inl me) = inl (settles.own a lt (subst (λ (n : ℕ). IsFlushed n s a) me by.flushed))
    by_client a q lt by (inr other) = ⊎_elim
        (λ his. inr (record {
          who = q;
          by = record {
            flight = by.flight;
            flies = record { client = by.flies.client; is = same.flights q by.flies.client other ∙ by.flies.is };
            flushed = his;
          };
        }))
        (λ is. inl is) (settles.kept q a lt by.flushed)

    by : (a : ℕ) → a < length s.now → IsSettled s a ⊎ IsAwaited b s a → IsSettled t a ⊎ IsAwaited b' t a
    by a lt (inl settled) = inl (settles.own a lt (settled_is_flushed s who a settled))
    by a lt (inr waits) = by_client a waits.who lt waits.by (cases_eq waits.who who)

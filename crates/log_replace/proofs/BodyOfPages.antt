-- The pages of a log make its body.
use Rattle.std.proofs.Common.{ℕ, ◌/◌, length, refl, arith}
use Rattle.pm_device.specs.State.{State}
use Rattle.pm_device.specs.Reading.{Said, Stands}
use Rattle.pm_device.proofs.Only.{stores_only-weaken}
use Rattle.pm_device.proofs.Layers.{stands-weaken}
use Rattle.pm_layout.specs.declared.Geometry.{Geometry}
use Rattle.dn_model.specs.Log.{Log, IsPaged}
use Rattle.law_log_swap.specs.Replaced.{BodySays, body_footer, body_slot}
use Rattle.law_log_swap.proofs.ReplacedLog.{body_stores}
use Rattle.log_replace.specs.Bodies.{PageSays, page_link, page_slot, BodyTo}
use Rattle.log_replace.specs.BodyLaws.{PagesMakeBody, NoPageStands, PageStoresChangeNothing}
use Rattle.log_replace.proofs.PageStored.{page_in_body}

pub pages_of_body : (g : Geometry) (log : Log) → IsPaged g log → (a v : ℕ) → BodySays log a v → BodyTo log (length log.pages) a v
pages_of_body g log paged a v (body_footer k more place value) = record { page = k; lt = omega (arith, more); says = page_link more place value }
pages_of_body g log paged a v (body_slot n j lt small place value) =
    let fits = paged.fits in
    record { page = n / 63; lt = omega (arith, lt, fits); says = page_slot n j refl lt small place value }

body_of_pages : (log : Log) (k a v : ℕ) → BodyTo log k a v → BodySays log a v
body_of_pages log k a v body = page_in_body log body.page a v body.says

pub body_stands : (g : Geometry) (log : Log) (s : State) → IsPaged g log → Stands (BodyTo log (length log.pages)) s → Stands (BodySays log) s
body_stands g log s paged stands = stands-weaken s (BodyTo log (length log.pages)) (BodySays log) (pages_of_body g log paged) stands

pub pages_make_body : PagesMakeBody
pages_make_body g log paged a v = (pages_of_body g log paged a v, body_of_pages log (length log.pages) a v)

pub no_page_stands : NoPageStands
no_page_stands log s = record {
  within = λ a v body. absurd (omega (arith, body.lt));
  reads = λ a v body. absurd (omega (arith, body.lt));
  settled = λ a v body.
      absurd (omega (arith, body.lt));
}

pub page_stores : PageStoresChangeNothing
page_stores d ino log may k s t only stands agree long = body_stores d ino log may s t
    (stores_only-weaken (Said (PageSays log k)) (Said (BodySays log)) s t
    (λ a said. record { value = said.value; told = page_in_body log k a said.value said.told }) only) stands agree long

use Rattle.std.proofs.Common.{◌≤◌, ◌<◌, subst, arith}
use Rattle.pm_layout.specs.declared.Geometry.{Geometry}
use Rattle.pm_layout.specs.Geometry.{first_data}
use Rattle.fact_tests.proofs.Inserts.{of_none, of_is_none, twenty_bytes}
use Rattle.fact_tests.proofs.tests.may_insert.Goals as goal

pub returns : goal.returns
returns g c = λ none. record {
  disk = c.requires.disk;
  may = record {
    table = c.requires.is;
    may = record {
      twenty_bytes = twenty_bytes c.args.print.now c.told-print c.fits-print;
      data_page = record {
        low = subst (λ (k : Geometry). first_data k ≤ c.args.page) c.geometry-g.ensures
            (omega (arith, c.first_data.ensures, c.if-page-first_data.false));
        high = subst (λ (k : Geometry). c.args.page < k.pages) c.geometry-g.ensures (omega (arith, c.if-page-g.false));
      };
      new_print = of_none c.find.result _ c.is_some.result c.is_some.ensures c.if-is_some.false c.find.ensures c.requires.disk c.requires.is;
      new_page = of_is_none c.by_page.result _ c.is_none.result c.is_none.ensures none c.by_page.ensures.none c.requires.disk c.requires.is;
    };
  };
}

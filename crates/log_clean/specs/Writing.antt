-- The next page of a cleaning is written: what becomes of what is kept in memory.
use Rattle.std.specs.Prelude.{ℕ, ◌+◌, ◌-◌, Some}
use Rattle.dn_volume.specs.declared.units.TheConstants.{LOG_PAGE_UNITS}
use Rattle.dn_volume.specs.declared.background.Cleaning.{Cleaning}
use Rattle.dn_volume.specs.declared.volume.Parts.{Parts}

-- one page more of the new log is written
abbrev pub one_written : Cleaning → Cleaning
one_written c = record c { written = c.written + 1 }

-- its units are owed no more, and so many calls were made
abbrev pub page_written : Parts → Cleaning → ℕ → Parts
page_written b c made = record b {
  reclaiming = record b.reclaiming { cleaning = Some (one_written c) };
  owed = record b.owed { units = b.owed.units - LOG_PAGE_UNITS };
  made = made;
}

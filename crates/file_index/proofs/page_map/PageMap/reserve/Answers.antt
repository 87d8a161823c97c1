use Rattle.std.proofs.Common.{length, ap, arith}
use Rattle.file_index.specs.Radix.{cells, filled}
use Rattle.file_index.proofs.Rooms.{on_err, room_enough, room_too_small}
use Rattle.file_index.proofs.PageMaps.{cells_long, same_radix, index_is, room_now, room_grows}
use Rattle.file_index.proofs.page_map.PageMap.reserve.Goals as goal

pub returns-then-wanted-spare-clause-ok : goal.returns-then-wanted-spare-clause-ok
returns-then-wanted-spare-clause-ok c =
    let spare = c.self.inside.spare in
    let missing = rw c.deref.ensures.value at c.missing.ensures in
    rw (← c.self.view_is)
    (room_enough (filled (cells c.self.inside.nodes.items)) (length (cells spare.items)) c.args.more (omega (arith, c.ranges.more))
    (omega (arith, missing, c.min-wanted.ensures, c.len-spare.ensures, c.if-wanted-spare.true, cells_long spare.items, spare.ok.0)))

pub returns-in_err-made-clause-short : goal.returns-in_err-made-clause-short
returns-in_err-made-clause-short c =
    let spare = c.self.inside.spare in
    let missing = rw c.deref.ensures.value at c.missing.ensures in
    rw (← c.self.view_is)
    (on_err c.from_residual.result (room_too_small (filled (cells c.self.inside.nodes.items)) (length (cells spare.items)) c.args.more
    (omega (arith, missing, c.min-wanted.ensures, c.len-spare.ensures, c.if-wanted-spare.false, cells_long spare.items, spare.ok.0))))

pub returns-in_err-open_root-clause-short : goal.returns-in_err-open_root-clause-short
returns-in_err-open_root-clause-short c =
    let spare = c.self.inside.spare in
    let missing = rw c.deref.ensures.value at c.missing.ensures in
    rw (← c.self.view_is)
    (on_err c.from_residual-in_err-open_root.result
    (room_too_small (filled (cells c.self.inside.nodes.items)) (length (cells spare.items)) c.args.more
    (omega (arith, missing, c.min-wanted.ensures, c.len-spare.ensures, c.if-wanted-spare.false, cells_long spare.items, spare.ok.0))))

pub returns-in_err-append-clause-short : goal.returns-in_err-append-clause-short
returns-in_err-append-clause-short c =
    let spare = c.self.inside.spare in
    let missing = rw c.deref.ensures.value at c.missing.ensures in
    rw (← c.self.view_is)
    (on_err c.from_residual-in_err-append.result
    (room_too_small (filled (cells c.self.inside.nodes.items)) (length (cells spare.items)) c.args.more
    (omega (arith, missing, c.min-wanted.ensures, c.len-spare.ensures, c.if-wanted-spare.false, cells_long spare.items, spare.ok.0))))

pub returns-in_err-append-clause-map : goal.returns-in_err-append-clause-map
returns-in_err-append-clause-map c =
    rw (← c.self.view_is)
    (same_radix (cells c.self.inside.nodes.items) (cells c.self.inside.spare.items) (cells c.open_root.new.nodes.items)
    (cells c.append.new.self.items) c.self.invariant.radix c.in_ok-open_root.ensures.ok)

pub returns-in_err-append-clause-err : goal.returns-in_err-append-clause-err
returns-in_err-append-clause-err c =
    rw (← c.self.view_is)
    (on_err c.from_residual-in_err-append.result
    (index_is (cells c.self.inside.nodes.items) (cells c.self.inside.spare.items) (cells c.open_root.new.nodes.items)
    (cells c.append.new.self.items) c.self.invariant.radix c.in_ok-open_root.ensures.ok (ap (λ l. length (cells l)) c.in_err-append.ensures.items)))

pub returns-clause-map : goal.returns-clause-map
returns-clause-map c =
    rw (← c.self.view_is)
    (same_radix (cells c.self.inside.nodes.items) (cells c.self.inside.spare.items) (cells c.open_root.new.nodes.items)
    (cells c.append.new.self.items) c.self.invariant.radix c.in_ok-open_root.ensures.ok)

pub returns-clause-ok : goal.returns-clause-ok
returns-clause-ok c =
    let spare = c.self.inside.spare in
    let more = c.append.new.self in
    let missing = rw c.deref.ensures.value at c.missing.ensures in
    room_now (cells c.self.inside.nodes.items) (cells spare.items) (cells c.open_root.new.nodes.items) (cells more.items)
    c.self.invariant.radix c.in_ok-open_root.ensures.ok c.args.more (omega (arith, c.ranges.more))
    (omega (
      arith,
      missing,
      c.min-wanted.ensures,
      c.len-spare.ensures,
      c.if-wanted-spare.false,
      c.in_ok-made.ensures.len,
      c.in_ok-append.ensures.len,
      cells_long more.items,
      more.ok.0,
    ))

pub returns-clause-no_less : goal.returns-clause-no_less
returns-clause-no_less c =
    let spare = c.self.inside.spare in
    let more = c.append.new.self in
    rw (← c.self.view_is)
    (room_grows (cells c.self.inside.nodes.items) (cells spare.items) (cells c.open_root.new.nodes.items) (cells more.items)
    c.self.invariant.radix c.in_ok-open_root.ensures.ok
    (omega (arith, c.in_ok-append.ensures.len, cells_long spare.items, spare.ok.0, cells_long more.items, more.ok.0)))

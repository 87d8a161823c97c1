use Rattle.fact_table.specs.Seen.{as_row}
use Rattle.reclaim.specs.Dying.{IsDyingState, IsLastOf, IsUnmapped}
use Rattle.reclaim.proofs.NextPlace.{inside_list}
use Rattle.reclaim.proofs.DyingFound.{state_at, node_at}
use Rattle.reclaim.proofs.Machine.{has_table, page_small, place_is_raised}
use Rattle.reclaim.proofs.dying.go_on.Goals as goal

pub last_place-requires : goal.last_place-requires
last_place-requires g c =
    let nodes = c.args.v.now.parts.inodes.items in
    node_at IsDyingState nodes c.args.ino c.index.result.now (inside_list nodes c.args.ino c.requires.dying.node c.requires.dying.there)
    c.index.ensures c.requires.dying

pub end_inode-requires-clause-none : goal.end_inode-requires-clause-none
end_inode-requires-clause-none g c =
    let nodes = c.args.v.now.parts.inodes.items in
    state_at IsUnmapped nodes c.args.ino c.index.result.now (inside_list nodes c.args.ino c.requires.dying.node c.requires.dying.there)
    c.index.ensures c.in-None.ensures.none

pub by_page-requires-clause-table : goal.by_page-requires-clause-table
by_page-requires-clause-table g c =
    let nodes = c.args.v.now.parts.inodes.items in
    has_table g.D.Pm.state c.args.v.now c.args.ino c.in-Some.place c.in-Some.page
    (state_at (λ n. IsLastOf n c.in-Some.place c.in-Some.page) nodes c.args.ino c.index.result.now (inside_list nodes c.args.ino c.requires.dying.node
    c.requires.dying.there) c.index.ensures c.in-Some.ensures.found)
    c.requires.agrees c.requires.running

pub by_page-requires-clause-page : goal.by_page-requires-clause-page
by_page-requires-clause-page g c =
    let nodes = c.args.v.now.parts.inodes.items in
    page_small g.D.Pm.state c.args.v.now c.args.ino c.in-Some.place c.in-Some.page
    (state_at (λ n. IsLastOf n c.in-Some.place c.in-Some.page) nodes c.args.ino c.index.result.now (inside_list nodes c.args.ino c.requires.dying.node
    c.requires.dying.there) c.index.ensures c.in-Some.ensures.found)
    c.requires.agrees c.requires.running

pub free_place-requires-clause-place : goal.free_place-requires-clause-place
free_place-requires-clause-place g c =
    let nodes = c.args.v.now.parts.inodes.items in
    state_at (λ n. IsLastOf n c.in-Some.place c.in-Some.page) nodes c.args.ino c.index.result.now (inside_list nodes c.args.ino c.requires.dying.node
    c.requires.dying.there) c.index.ensures c.in-Some.ensures.found

pub raise_place-requires-clause-place : goal.raise_place-requires-clause-place
raise_place-requires-clause-place g c =
    let nodes = c.args.v.now.parts.inodes.items in
    place_is_raised g.D.Pm.state c.args.v.now c.args.ino c.in-Some.place c.in-Some.page
    (state_at (λ n. IsLastOf n c.in-Some.place c.in-Some.page) nodes c.args.ino c.index.result.now (inside_list nodes c.args.ino c.requires.dying.node
    c.requires.dying.there) c.index.ensures c.in-Some.ensures.found)
    (as_row c.in-Some-by_page.row) c.in-Some-by_page.ensures.found

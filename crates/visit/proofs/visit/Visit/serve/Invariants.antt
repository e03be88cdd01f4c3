use Rattle.std.proofs.Common.{◌≡◌, map, take, drop}
use Rattle.book.specs.Book.{run, replies}
use Rattle.book.specs.Trust.{Fits}
use Rattle.visit.specs.Calls.{asks, holds, answered}
use Rattle.visit.specs.Visits.{book}
use Rattle.visit.proofs.Served.{account}
use Rattle.visit.proofs.visit.Visit.serve.Given as goal

-- the requests that are left are as they came; what is held and what the book replies to them is what it replies to all
abbrev pub invariant-loop-request : goal.invariant-loop-request
invariant-loop-request g l =
    let ks = g.S.List.Kinds.models in
    let ask = asks g.X.Source in
    let i = l.request-index in
    let b = book g.S.List.Kinds l.self in
    let b0 = book g.S.List.Kinds l.initial.self in
    let calls = map ask l.initial.request-items in
    (drop i l.request-items ≡ drop i l.initial.request-items)
    × (run ks b (map ask (drop i l.initial.request-items)) ≡ run ks b0 calls)
    × (account ks ask (holds g.X.Source) l.request-items l.initial.request-items i b ≡ map answered (replies ks b0 calls))
    × Fits (map ask (take i l.initial.request-items))

use Rattle.std.proofs.Common.{◌≡◌, map, length, take, drop, sym, ap, ◌∙◌, rules}
use Rattle.std.proofs.lemmas.List.{take_at}
use Rattle.clients.specs.Subs.{sub_of}
use Rattle.subscribers.specs.Held.{pairs}
use Rattle.protocol.specs.Buffers.{laid}
use Rattle.subscribers.specs.Pairs.{subscribers_at}
use Rattle.subscribers.proofs.Standings.{subs_standings}
use Rattle.subscribers.proofs.list.Subscribers.collect.Goals as goal

pub returns-clause-standing : goal.returns-clause-standing
returns-clause-standing g c =
    let id = g.C.Client.identity in
    let h = c.args.handle.0 in
    let those = subscribers_at h (pairs c.args.self.now) in
    let work = c.args.work.now in
    let count : c.collect_in.result ≡ length those = search rules in
    let filled : c.collect_in.new.work ≡ laid those work = search rules in
    ap (λ w. map (sub_of id) (take c.collect_in.result w)) filled
    ∙ ap (map (sub_of id)) (take_at those (drop (length those) work) c.collect_in.result (sym count))
    ∙ sym (subs_standings id h (pairs c.args.self.now))

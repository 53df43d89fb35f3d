use Rattle.std.proofs.Common.{◌≡◌, [], ◌∷◌, ◌++◌, map, take, ap, ◌∙◌, rules}
use Rattle.std.proofs.lemmas.Bool.{lt-ltb}
use Rattle.std.proofs.lemmas.List.{map_push, take_all}
use Rattle.clients.specs.Subs.{sub_of}
use Rattle.slot_outbox.specs.Held.{held}
use Rattle.slot_outbox.specs.Slots.{note_in}
use Rattle.slot_outbox.proofs.slots.Slots.push.Goals as goal

pub returns-clause-after : goal.returns-clause-after
returns-clause-after g c =
    let id = g.C.Client.identity in
    let q = c.args.self.now in
    let bytes = c.args.payload.now in
    let pushed = c.push.ensures.items (c.push.ensures.room ∙ lt-ltb _ _ c.requires.room) in
    let wrote : note_in id pushed.1 ≡ record { to = sub_of id c.args.subscriber; content = c.args.content; payload = take 256 bytes } = search rules in
    ap (map (note_in id)) pushed.3
    ∙ map_push (note_in id) (held q) pushed.1
    ∙ ap (λ n. map (note_in id) (held q) ++ n ∷ []) (wrote ∙ ap (λ b. record { to = sub_of id c.args.subscriber; content = c.args.content; payload = b }) (take_all 256 bytes c.requires.short))

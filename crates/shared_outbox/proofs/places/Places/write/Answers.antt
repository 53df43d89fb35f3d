use Rattle.std.proofs.Common.{◌<◌, length, set, refl, ap, ◌∙◌}
use Rattle.std.proofs.lemmas.List.{map-set, take_all}
use Rattle.shared_outbox.proofs.Contents.{map_set_same}
use Rattle.shared_outbox.specs.declared.place.Place.{Place}
use Rattle.shared_outbox.specs.Places.{bodies, body_of}
use Rattle.shared_outbox.proofs.places.Places.write.Goals as goal

pub returns-clause-bodies : goal.returns-clause-bodies
returns-clause-bodies c =
    let ps = c.self.inside.contents.now in
    let at = c.args.at in
    rw (← c.self.view_is)
    (map-set body_of ps at _ ∙ ap (λ b. set (bodies ps) at (record { content = c.args.content; payload = b })) (c.set.ensures ∙ take_all 256 c.args.payload.now c.requires.short))

pub returns-clause-users : goal.returns-clause-users
returns-clause-users c =
    let ps = c.self.inside.contents.now in
    let within : c.args.at < length ps = rw c.self.view_is c.requires.within in
    rw (← c.self.view_is) (map_set_same (λ (p : Place). p.users) ps c.args.at _ c.index-contents-at.result within refl)

use Rattle.std.proofs.Common.{◌-◌, ◌<◌, length, set, sym, refl, ap, ◌∙◌}
use Rattle.std.proofs.lemmas.List.{map-set}
use Rattle.shared_outbox.proofs.Contents.{map_set_same, users_of}
use Rattle.shared_outbox.specs.declared.place.Place.{Place}
use Rattle.shared_outbox.specs.Places.{body_of, counts}
use Rattle.shared_outbox.proofs.places.Places.release.Goals as goal

pub returns-clause-bodies : goal.returns-clause-bodies
returns-clause-bodies c =
    let ps = c.self.inside.contents.now in
    let within : c.args.at < length ps = rw c.self.view_is c.requires.within in
    rw (← c.self.view_is) (map_set_same body_of ps c.args.at _ c.index-contents-at.result within refl)

pub returns-clause-users : goal.returns-clause-users
returns-clause-users c =
    let ps = c.self.inside.contents.now in
    let at = c.args.at in
    let within : at < length ps = rw c.self.view_is c.requires.within in
    rw (← c.self.view_is)
    (map-set (λ (p : Place). p.users) ps at _ ∙ ap (λ n. set (counts ps) at (n - 1)) (sym (users_of ps at c.index-contents-at.result within)))

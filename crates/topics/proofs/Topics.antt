-- Properties of a new topic are those of a topic: in range, with an address and a resource type of fixed length.
use Rattle.std.proofs.Common.{◌≡◌, ℕ, Bool, true, not, ◌&&◌, leb, List, length, is_some, IfSome, Some, None, codes, Option, unwrap_or, refl, ap}
use Rattle.std.specs.Borrow.{Bor}
use Rattle.std.specs.Option.{option_eq, option_map}
use Rattle.std.proofs.lemmas.Bool.{and_parts, and_from}
use Rattle.protocol.specs.Bytes.{alike}
use Rattle.protocol.proofs.Bytes.{alike_decides}
use Rattle.map_writer.proofs.Largest.{ranges}
use Rattle.maps.specs.Laws.{Topical}
use Rattle.maps.specs.Maps.{Props, absent_or, in_range, with_defaults, with_data_address}
use Rattle.topics.specs.Admission.{fit, gives}

-- a default that is in range keeps a value in range
defaulted : (ok : ℕ → Bool) (o : Option ℕ) (d : ℕ) → ok d ≡ true → absent_or ok o ≡ true → ok (unwrap_or o d) ≡ true
defaulted ok None d h e = h
defaulted ok (Some n) d h e = e

-- a given text has the length of what it must be
sized : (t : List ℕ) (o : Option (List ℕ)) → gives t o ≡ true → IfSome o (λ s. length s ≡ length t)
sized t None h = tt
sized t (Some s) h = ap length ((alike_decides s t).0 h)

pub topical : (p : Props) (address : List ℕ) → length address ≡ 17 → in_range p ≡ true → fit p ≡ true → Topical (with_defaults (with_data_address p address))
topical p address l ranged f =
    let r = ranges p ranged in
    let g = and_parts (is_some p.name) (gives (codes "core.ps.data") p.resource_type && not (is_some p.data_address)) f in
    let k = and_parts (gives (codes "core.ps.data") p.resource_type) (not (is_some p.data_address)) g.1 in
    record {
      ranged =
          and_from _ _ r.name (and_from _ _ r.format (and_from _ _ r.topic (and_from _ _ r.date
          (and_from _ _ (defaulted (λ n. leb n 100) p.max_subscribers 100 refl r.most) (defaulted (λ n. leb n 4294967295) p.observer_check 86400 refl r.check)))));
      data_address = l;
      resource_type = sized (codes "core.ps.data") p.resource_type k.0;
    }

-- a text that equals one that is there is given
pub given : (same : Bor (List ℕ) → Bor (List ℕ) → Bool) (t : Bor (List ℕ)) → ((s : Bor (List ℕ)) → same s t ≡ alike s.now t.now) → (o : Option (Bor (List ℕ))) → option_eq same o (Some t) ≡ gives t.now (option_map (λ x. x.now) o)
given same t e None = refl
given same t e (Some s) = e s

use Rattle.std.proofs.Common.{◌≡◌, ◌^◌, ltb, length, Some, None, sym, ap, ◌∙◌, arith}
use Rattle.std.proofs.lemmas.Bool.{cond-true, lt-ltb}
use Rattle.maps.specs.Maps.{meant, written}
use Rattle.map_writer.proofs.Lengths.{written_lt}
use Rattle.map_writer.proofs.writer.written_len.Goals as goal

pub returns-then-counter : goal.returns-then-counter
returns-then-counter c =
    let n = length (written (meant c.args.p.now)) in
    let len : c.put_map.new.sink.len ≡ n = omega (arith, c.put_map.ensures.map, written_lt (meant c.args.p.now) c.put_map.ensures.value) in
    record { answer = ap Some len ∙ sym (cond-true (ltb n (2 ^ 64)) (Some n) None (lt-ltb n (2 ^ 64) (omega arith))) }

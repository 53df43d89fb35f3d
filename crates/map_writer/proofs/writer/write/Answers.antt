use Rattle.std.proofs.Common.{◌≡◌, ◌≤◌, length, ◌∙◌, arith, rules}
use Rattle.maps.specs.Maps.{meant, written}
use Rattle.map_writer.specs.Laws.{Laws}
use Rattle.map_writer.proofs.Buffers.{fits-len, fits_placed, overlaid-front}
use Rattle.map_writer.proofs.Lengths.{some_from_fits}
use Rattle.map_writer.proofs.Largest.{largest}
use Rattle.map_writer.proofs.Reading.{reads_back, one_form, front_reads}
use Rattle.map_writer.proofs.writer.write.Goals as goal

laws : Laws
laws = record { reads_back = reads_back; one_form = one_form; largest = largest }

pub returns-in_err-len-clause-laws : goal.returns-in_err-len-clause-laws
returns-in_err-len-clause-laws c = laws

pub returns-then-len-out-clause-laws : goal.returns-then-len-out-clause-laws
returns-then-len-out-clause-laws c = laws

pub returns : goal.returns
returns c =
    let bytes = written (meant c.args.p.now) in
    let out = c.args.out.now in
    let len = some_from_fits (length bytes) c.in_ok-len.len c.in_ok-len.ensures.answer in
    let fits : length bytes ≤ length out = omega arith in
    let name = c.put_map.ensures.map.same_reference in
    let same : _ ≡ c.put_map.new.sink.out.now = search rules in
    let placed = same ∙ c.put_map.ensures.map.buffer ∙ overlaid-front out bytes in
    record {
      answer = fits-len bytes out c.in_ok-len.len fits len;
      buffer = fits_placed bytes out _ fits placed;
      reads_back = front_reads (meant c.args.p.now) out _ c.in_ok-len.len c.put_map.ensures.value len placed;
      laws = laws;
    }

use Rattle.map_writer.proofs.Sinks.{front, rest, both}
use Rattle.map_writer.proofs.form.put_map.Goals as goal

pub put_text-requires : goal.put_text-requires
put_text-requires g c =
    let laws = g.met.S.Sink.laws in
    front laws _ (rest laws c.requires (rw c.count.ensures.answer at c.put_head.ensures))

pub put_text-requires-2 : goal.put_text-requires-2
put_text-requires-2 g c =
    let laws = g.met.S.Sink.laws in
    let name = rest laws c.requires (rw c.count.ensures.answer at c.put_head.ensures) in
    front laws _ (rest laws name c.put_text.ensures.entry)

pub put_text-requires-3 : goal.put_text-requires-3
put_text-requires-3 g c =
    let laws = g.met.S.Sink.laws in
    let name = rest laws c.requires (rw c.count.ensures.answer at c.put_head.ensures) in
    let address = rest laws name c.put_text.ensures.entry in
    front laws _ (rest laws address c.put_text-2.ensures.entry)

pub put_number-requires : goal.put_number-requires
put_number-requires g c =
    let laws = g.met.S.Sink.laws in
    let name = rest laws c.requires (rw c.count.ensures.answer at c.put_head.ensures) in
    let address = rest laws name c.put_text.ensures.entry in
    let resource = rest laws address c.put_text-2.ensures.entry in
    front laws _ (rest laws resource c.put_text-3.ensures.entry)

pub put_text-requires-4 : goal.put_text-requires-4
put_text-requires-4 g c =
    let laws = g.met.S.Sink.laws in
    let name = rest laws c.requires (rw c.count.ensures.answer at c.put_head.ensures) in
    let address = rest laws name c.put_text.ensures.entry in
    let resource = rest laws address c.put_text-2.ensures.entry in
    let format = rest laws resource c.put_text-3.ensures.entry in
    front laws _ (rest laws format c.put_number.ensures.entry)

pub put_date-requires : goal.put_date-requires
put_date-requires g c =
    let laws = g.met.S.Sink.laws in
    let name = rest laws c.requires (rw c.count.ensures.answer at c.put_head.ensures) in
    let address = rest laws name c.put_text.ensures.entry in
    let resource = rest laws address c.put_text-2.ensures.entry in
    let format = rest laws resource c.put_text-3.ensures.entry in
    let topic = rest laws format c.put_number.ensures.entry in
    front laws _ (rest laws topic c.put_text-4.ensures.entry)

pub put_number-requires-2 : goal.put_number-requires-2
put_number-requires-2 g c =
    let laws = g.met.S.Sink.laws in
    let name = rest laws c.requires (rw c.count.ensures.answer at c.put_head.ensures) in
    let address = rest laws name c.put_text.ensures.entry in
    let resource = rest laws address c.put_text-2.ensures.entry in
    let format = rest laws resource c.put_text-3.ensures.entry in
    let topic = rest laws format c.put_number.ensures.entry in
    let date = rest laws topic c.put_text-4.ensures.entry in
    front laws _ (rest laws date c.put_date.ensures.entry)

pub put_number-requires-3 : goal.put_number-requires-3
put_number-requires-3 g c =
    let laws = g.met.S.Sink.laws in
    let name = rest laws c.requires (rw c.count.ensures.answer at c.put_head.ensures) in
    let address = rest laws name c.put_text.ensures.entry in
    let resource = rest laws address c.put_text-2.ensures.entry in
    let format = rest laws resource c.put_text-3.ensures.entry in
    let topic = rest laws format c.put_number.ensures.entry in
    let date = rest laws topic c.put_text-4.ensures.entry in
    let most = rest laws date c.put_date.ensures.entry in
    rest laws most c.put_number-2.ensures.entry

pub returns-clause-map : goal.returns-clause-map
returns-clause-map g c =
    let laws = g.met.S.Sink.laws in
    let head = rw c.count.ensures.answer at c.put_head.ensures in
    let name = rest laws c.requires head in
    let address = rest laws name c.put_text.ensures.entry in
    let resource = rest laws address c.put_text-2.ensures.entry in
    let format = rest laws resource c.put_text-3.ensures.entry in
    let topic = rest laws format c.put_number.ensures.entry in
    let date = rest laws topic c.put_text-4.ensures.entry in
    let most = rest laws date c.put_date.ensures.entry in
    both laws c.requires head
    (both laws name c.put_text.ensures.entry
    (both laws address c.put_text-2.ensures.entry
    (both laws resource c.put_text-3.ensures.entry
    (both laws format c.put_number.ensures.entry
    (both laws topic c.put_text-4.ensures.entry
    (both laws date c.put_date.ensures.entry
    (both laws most c.put_number-2.ensures.entry c.put_number-3.ensures.entry)))))))

-- `put_payload` meets its contract: the key, the digits and the line feed are written one behind the other.
use Rattle.card.specs.Text.{payload_key, hex_text}
use Rattle.card.proofs.print.Lines.{key_room, value_room, feed_room, line_printed, payload_parts}
use Rattle.card.proofs.print.put_payload.Goals as goal

pub put_bytes-digits-requires : goal.put_bytes-digits-requires
put_bytes-digits-requires c =
    key_room payload_key (hex_text c.args.payload.now) (payload_parts c.args.payload.now) c.requires

pub put_hex-end-requires : goal.put_hex-end-requires
put_hex-end-requires c =
    value_room _ _ (payload_parts c.args.payload.now) c.requires c.put_bytes-digits.ensures

pub put_byte-requires : goal.put_byte-requires
put_byte-requires c =
    feed_room _ _ (payload_parts c.args.payload.now) c.requires c.put_bytes-digits.ensures c.put_hex-end.ensures

pub returns : goal.returns
returns c =
    line_printed _ _ (payload_parts c.args.payload.now) c.requires
    c.put_bytes-digits.ensures c.put_hex-end.ensures c.put_byte.ensures

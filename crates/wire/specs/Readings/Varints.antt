-- Readings of varints, by the sentences of the rules.
use Rattle.std.specs.Prelude.{◌-◌, ◌^◌, List, [], ◌∷◌, ◌++◌, replicate}
use Rattle.wire.specs.Varint.{written}
use Rattle.wire.specs.Readings.Rows.{Row, row, varint_is, no_varint, command_is, command_16, a_flow, flow_read}

-- a varint alone
unfoldable pub varint_rows : List Row
varint_rows =
    -- seven bits a byte, the lowest first; what follows the last byte is not part of it
    varint_is (0 ∷ []) 0 1
    ∷ varint_is (127 ∷ []) 127 1
    ∷ varint_is (128 ∷ 1 ∷ []) 128 2
    ∷ varint_is (172 ∷ 2 ∷ []) 300 2
    ∷ varint_is (255 ∷ 127 ∷ []) 16383 2
    ∷ varint_is (128 ∷ 128 ∷ 1 ∷ []) 16384 3
    ∷ varint_is (5 ∷ 200 ∷ 1 ∷ []) 5 1
    -- cut off: none
    ∷ no_varint []
    ∷ no_varint (128 ∷ [])
    ∷ no_varint (255 ∷ 255 ∷ [])
    ∷ no_varint (replicate 9 255)
    -- ten bytes and no more
    ∷ varint_is (replicate 9 128 ++ 1 ∷ []) (2 ^ 63) 10
    ∷ no_varint (replicate 10 128)
    ∷ no_varint (replicate 10 128 ++ 0 ∷ [])
    ∷ no_varint (replicate 10 128 ++ 1 ∷ [])
    ∷ no_varint (replicate 9 128 ++ 129 ∷ 0 ∷ [])
    -- below 2^64: the tenth byte is 0 or 1
    ∷ varint_is (replicate 9 255 ++ 0 ∷ []) (2 ^ 63 - 1) 10
    ∷ varint_is (replicate 9 255 ++ 1 ∷ []) (2 ^ 64 - 1) 10
    ∷ no_varint (replicate 9 128 ++ 2 ∷ [])
    ∷ no_varint (replicate 9 255 ++ 2 ∷ [])
    ∷ no_varint (replicate 9 128 ++ 3 ∷ [])
    ∷ no_varint (replicate 9 255 ++ 127 ∷ [])
    -- a longer form than needed is taken
    ∷ varint_is (128 ∷ 0 ∷ []) 0 2
    ∷ varint_is (135 ∷ 128 ∷ 0 ∷ []) 7 3
    ∷ varint_is (129 ∷ replicate 8 128 ++ 0 ∷ []) 1 10
    -- written: the shortest form
    ∷ row (written 0) (0 ∷ [])
    ∷ row (written 127) (127 ∷ [])
    ∷ row (written 128) (128 ∷ 1 ∷ [])
    ∷ row (written 300) (172 ∷ 2 ∷ [])
    ∷ row (written 16383) (255 ∷ 127 ∷ [])
    ∷ row (written 16384) (128 ∷ 128 ∷ 1 ∷ [])
    ∷ row (written (2 ^ 32 - 1)) (255 ∷ 255 ∷ 255 ∷ 255 ∷ 15 ∷ [])
    ∷ row (written (2 ^ 63 - 1)) (replicate 8 255 ++ 127 ∷ [])
    ∷ row (written (2 ^ 63)) (replicate 9 128 ++ 1 ∷ [])
    ∷ row (written (2 ^ 64 - 1)) (replicate 9 255 ++ 1 ∷ [])
    ∷ []

-- a varint in a Flow of consumer 7 with 5 permits
unfoldable pub varint_place_rows : List Row
varint_place_rows =
    -- as a client writes it
    command_is (8 ∷ 11 ∷ 90 ∷ 4 ∷ 8 ∷ 7 ∷ 16 ∷ 5 ∷ []) (flow_read 7 5)
    -- longer forms: in a value, in the type, in a tag, in a length
    ∷ command_is (a_flow (8 ∷ 135 ∷ 128 ∷ 0 ∷ 16 ∷ 133 ∷ 0 ∷ [])) (flow_read 7 5)
    ∷ command_is (8 ∷ 139 ∷ 128 ∷ 0 ∷ 90 ∷ 4 ∷ 8 ∷ 7 ∷ 16 ∷ 5 ∷ []) (flow_read 7 5)
    ∷ command_is (a_flow (136 ∷ 0 ∷ 7 ∷ 144 ∷ 128 ∷ 0 ∷ 5 ∷ [])) (flow_read 7 5)
    ∷ command_is (8 ∷ 11 ∷ 218 ∷ 0 ∷ 132 ∷ 128 ∷ 0 ∷ 8 ∷ 7 ∷ 16 ∷ 5 ∷ []) (flow_read 7 5)
    -- up to ten bytes in each place
    ∷ command_is (a_flow (8 ∷ 135 ∷ replicate 8 128 ++ 0 ∷ 16 ∷ 5 ∷ [])) (flow_read 7 5)
    ∷ command_is (a_flow (136 ∷ replicate 8 128 ++ 0 ∷ 7 ∷ 16 ∷ 5 ∷ [])) (flow_read 7 5)
    ∷ command_is (8 ∷ 11 ∷ 90 ∷ 132 ∷ replicate 8 128 ++ 0 ∷ 8 ∷ 7 ∷ 16 ∷ 5 ∷ []) (flow_read 7 5)
    -- eleven bytes: 16 in each place
    ∷ command_16 (a_flow (8 ∷ 135 ∷ replicate 9 128 ++ 0 ∷ 16 ∷ 5 ∷ []))
    ∷ command_16 (a_flow (136 ∷ replicate 9 128 ++ 0 ∷ 7 ∷ 16 ∷ 5 ∷ []))
    ∷ command_16 (8 ∷ 11 ∷ 90 ∷ 132 ∷ replicate 9 128 ++ 0 ∷ 8 ∷ 7 ∷ 16 ∷ 5 ∷ [])
    -- 2^64 and above: 16 in each place, though the low 64 bits would do
    ∷ command_16 (a_flow (8 ∷ 135 ∷ replicate 8 128 ++ 2 ∷ 16 ∷ 5 ∷ []))
    ∷ command_16 (a_flow (136 ∷ replicate 8 128 ++ 2 ∷ 7 ∷ 16 ∷ 5 ∷ []))
    ∷ command_16 (8 ∷ 11 ∷ 90 ∷ 132 ∷ replicate 8 128 ++ 2 ∷ 8 ∷ 7 ∷ 16 ∷ 5 ∷ [])
    -- any varint, so that of a field that is not read too: up to 2^64 - 1
    ∷ command_is (a_flow (8 ∷ 7 ∷ 16 ∷ 5 ∷ 24 ∷ replicate 9 255 ++ 1 ∷ [])) (flow_read 7 5)
    ∷ command_16 (a_flow (8 ∷ 7 ∷ 16 ∷ 5 ∷ 24 ∷ replicate 9 255 ++ 2 ∷ []))
    ∷ command_16 (a_flow (8 ∷ 7 ∷ 16 ∷ 5 ∷ 24 ∷ replicate 10 128 ++ 0 ∷ []))
    -- cut off by the end of the message that it stands in, though more bytes follow: 16
    ∷ command_16 (8 ∷ 11 ∷ 90 ∷ 4 ∷ 8 ∷ 7 ∷ 16 ∷ 133 ∷ 24 ∷ 1 ∷ [])
    ∷ command_16 (8 ∷ 11 ∷ 90 ∷ 5 ∷ 8 ∷ 7 ∷ 16 ∷ 5 ∷ 152 ∷ 24 ∷ 1 ∷ [])
    ∷ command_16 (8 ∷ 11 ∷ 90 ∷ 4 ∷ 8 ∷ 7 ∷ 16 ∷ 5 ∷ 18 ∷ [])
    ∷ command_16 (8 ∷ 11 ∷ 90 ∷ 4 ∷ 8 ∷ 7 ∷ 16 ∷ 5 ∷ 18 ∷ 128 ∷ [])
    ∷ []

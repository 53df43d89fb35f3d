-- Endpoints by what they mean: an address of 16 bytes, and a port.
use Rattle.std.specs.Prelude.{ℕ, List}
use Rattle.protocol.specs.Bytes.{be_bytes}
use Rattle.clients.specs.declared.endpoint.Endpoint.{Endpoint}

-- the bytes of an endpoint's address
abbrev pub address_of : Endpoint → List ℕ
address_of e = be_bytes 16 e.address

-- an endpoint's port
abbrev pub port_of : Endpoint → ℕ
port_of e = e.port

pub use Rattle.routing_encoder.specs.Encoded

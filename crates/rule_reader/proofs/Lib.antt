mod Reader
